use Rattle.std.proofs.Common.{Bool, List, ap, subst}
use Rattle.std.proofs.lemmas.List.{take_all}
use Rattle.sudo_policy.specs.declared.entry.Signed.{Signed}
use Rattle.sudo_decide.specs.Decision.{signed_answer, list_answer}
use Rattle.sudo_compiled.specs.private.Writing.{Adds}
use Rattle.sudo_compiled.proofs.WrittenLists.{adds_more, adds_one}
use Rattle.sudo_compiled.proofs.writing.push_copies.Goals as goal

pub loop-x-preserved : goal.loop-x-preserved
loop-x-preserved g c =
    let plain = g.K.Kind.plain in
    adds_more plain plain c.args.list.now c.args.negated c.loop-x.x-index c.x-item.result c.args.out.now.items
    c.loop-x.out.items c.push_signed.new.out.items c.loop-x-test.true c.x-item.is c.loop-x.invariant
    (subst (λ (sign : Bool). Adds plain c.loop-x.out.items c.push_signed.new.out.items (λ i. signed_answer sign (plain i c.x-item.result.item)))
    c.turned.ensures (adds_one plain c.loop-x.out.items c.push_signed.new.out.items c.turned.result c.in_ok-own.own
    (λ i. plain i c.x-item.result.item) c.in_ok-push_signed.ensures (λ i. ap (plain i) c.in_ok-own.ensures)))

pub returns : goal.returns
returns g c =
    subst (λ (list : List (Signed _)).
    Adds g.K.Kind.plain c.args.out.now.items c.loop-x.out.items (λ i. signed_answer c.args.negated (list_answer (g.K.Kind.plain i) list)))
    (take_all c.loop-x.x-index c.args.list.now c.loop-x-test.false) c.loop-x.invariant
