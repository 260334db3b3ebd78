use Rattle.std.proofs.Common.{rules, ◌≡◌, Option, Some, None, subst}
use Rattle.store_opening.specs.declared.names.Asked.{Asked}
use Rattle.store_opening.specs.private.Names.{IsTold}
use Rattle.store_opening.proofs.IndexLemmas.{told_more, told_none}
use Rattle.store_opening.proofs.known.all_told.Goals as goal
use Rattle.store_opening.proofs.known.all_told.Goals.{in-Some+in_ok-push, in_default}

pub loop-stored-preserved : goal.loop-stored-preserved
loop-stored-preserved c = elim c.match-told.branch [
  | in-Some+in_ok-push w ↦
      let from : IsTold c.stored-item.result (Some w.in-Some.one) = subst (λ (o : Option Asked). IsTold c.stored-item.result o) w.in-Some.is c.told.ensures in
      rw (w.asked-is, w.in_ok-push.ensures.items) (told_more c.args.all.now c.loop-stored.stored-index c.stored-item.result
      c.loop-stored-test.true c.stored-item.is c.loop-stored.asked.items c.loop-stored.invariant w.in-Some.one from)
  | in_default w ↦
      let none : c.told.result ≡ None = search rules in
      rw w.asked-is (told_none c.args.all.now c.loop-stored.stored-index c.stored-item.result c.loop-stored-test.true c.stored-item.is
      c.loop-stored.asked.items c.loop-stored.invariant (subst (λ (o : Option Asked). IsTold c.stored-item.result o) none c.told.ensures))
]
