use Rattle.std.proofs.Common.{List, subst, take_all}
use Rattle.messages.specs.declared.message.Message.{Message}
use Rattle.desk_store.proofs.EachOnce.{AreSame, put_more}
use Rattle.desk_store.proofs.replacing.each_once.Goals as goal

pub loop-stored-preserved : goal.loop-stored-preserved
loop-stored-preserved c =
    put_more c.args.all.now c.loop-stored.messages c.put.new.self c.loop-stored.stored-index c.stored-item.result
    c.loop-stored-test.true c.stored-item.is c.loop-stored.invariant (rw c.message.ensures.value at c.in-Ok.ensures.put)

pub returns : goal.returns
returns c = subst (λ (l : List Message). AreSame l c.loop-stored.messages)
    (take_all c.loop-stored.stored-index c.args.all.now c.loop-stored-test.false) c.loop-stored.invariant
