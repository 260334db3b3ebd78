use Rattle.std.proofs.Common.{ap, ◌∙◌}
use Rattle.sudo_decide.specs.Decision.{signed_answer, list_answer}
use Rattle.sudo_compiled.specs.private.Writing.{known_says}
use Rattle.sudo_compiled.proofs.WrittenLists.{if_ok}
use Rattle.sudo_compiled.proofs.writing.written_alone.Goals as goal

pub returns-in-Own : goal.returns-in-Own
returns-in-Own g c = λ i.
    let plain = g.K.Kind.plain i in
    ap (list_answer plain) c.one.ensures
    ∙ ap (signed_answer c.args.only.now.negated) ((rw c.in-Own.is at c.in_ok-item.ensures) i (known_says plain c.args.known.now))

pub returns-in-Alias : goal.returns-in-Alias
returns-in-Alias g c =
    if_ok c.shared.result (λ w answers i. answers i ∙ ap (signed_answer c.args.only.now.negated)
    ((rw c.in-Alias.is at c.in_ok-item.ensures) i (known_says (g.K.Kind.plain i) c.args.known.now))) c.shared.ensures
