use Rattle.std.proofs.Common.{sym, ap, ◌∙◌}
use Rattle.sudo_decide.specs.Decision.{signed_answer, list_answer}
use Rattle.sudo_compiled.specs.private.Writing.{found_says}
use Rattle.sudo_compiled.proofs.WrittenLists.{signed_silence, turned_list}
use Rattle.sudo_compiled.proofs.writing.shared.Goals as goal

pub returns-in_ok-clone-in-Some : goal.returns-in_ok-clone-in-Some
returns-in_ok-clone-in-Some g c = λ i.
    let plain = g.K.Kind.plain i in
    ap (list_answer plain) c.alias.ensures ∙ turned_list plain c.args.negated c.in_ok-clone-in-Some.field-0.value.items ∙ ap (signed_answer c.args.negated)
    (ap (λ (v : _). list_answer plain v.items) c.in_ok-clone-in-Some.ensures.cases ∙ ap (found_says plain) c.in-Some.ensures)

pub returns-in-None : goal.returns-in-None
returns-in-None g c = λ i.
    let plain = g.K.Kind.plain i in
    ap (list_answer plain) (c.more.ensures ∙ c.new.ensures.items)
    ∙ sym (ap (signed_answer c.args.negated) (ap (found_says plain) (sym c.in-None.ensures)) ∙ signed_silence c.args.negated)
