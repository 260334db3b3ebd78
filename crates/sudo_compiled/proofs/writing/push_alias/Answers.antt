use Rattle.std.proofs.Common.{Bool, Option, sym, ap, ◌∙◌}
use Rattle.sudo_decide.specs.declared.invocation.Invocation.{Invocation}
use Rattle.sudo_decide.specs.Decision.{signed_answer, list_answer}
use Rattle.sudo_compiled.specs.private.Writing.{found_says, known_says}
use Rattle.sudo_compiled.proofs.WrittenLists.{adds_nothing, adds_as, on_ok}
use Rattle.sudo_compiled.proofs.writing.push_alias.Goals as goal

pub returns-in-Some : goal.returns-in-Some
returns-in-Some g c =
    let plain = g.K.Kind.plain in
    let of_list : Invocation → Option Bool = λ i. signed_answer c.args.negated (list_answer (plain i) c.as_slice.result.now) in
    let of_alias : Invocation → Option Bool = λ i. signed_answer c.args.negated (known_says (plain i) c.args.known.now c.args.name.now) in
    on_ok c.push_copies.result (adds_as plain c.args.out.now.items c.push_copies.new.out.items of_list of_alias (λ i. ap (signed_answer c.args.negated)
    (ap (list_answer (plain i)) (c.as_slice.ensures.value ∙ ap (λ (v : _). v.items) c.as_ref.ensures) ∙ ap (found_says (plain i)) c.in-Some.ensures)))
    c.push_copies.ensures

pub returns-in-None : goal.returns-in-None
returns-in-None g c =
    adds_nothing g.K.Kind.plain c.args.out.now.items c.args.negated (λ i. known_says (g.K.Kind.plain i) c.args.known.now c.args.name.now)
    (λ i. ap (found_says (g.K.Kind.plain i)) (sym c.in-None.ensures))
