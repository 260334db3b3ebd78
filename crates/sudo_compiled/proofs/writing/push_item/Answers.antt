use Rattle.std.proofs.Common.{Bool, Option}
use Rattle.sudo_decide.specs.declared.invocation.Invocation.{Invocation}
use Rattle.sudo_compiled.specs.private.Writing.{known_says}
use Rattle.sudo_compiled.proofs.WrittenLists.{adds_one, on_ok}
use Rattle.sudo_compiled.proofs.writing.push_item.Goals as goal

pub returns-in-Own : goal.returns-in-Own
returns-in-Own g c =
    let plain = g.K.Kind.plain in
    let says : Invocation → Option Bool = λ i. g.K.Kind.says i (known_says (plain i) c.args.known.now) c.args.item.now in
    on_ok c.push_signed.result
    (λ is. adds_one plain c.args.out.now.items c.push_signed.new.out.items c.args.negated c.in-Own.own says is
    (λ i. (rw c.in-Own.is at c.in_ok-own.ensures) i (known_says (plain i) c.args.known.now)))
    c.push_signed.ensures
