use Rattle.std.proofs.Common.{sym, ap, ◌∙◌}
use Rattle.sudo_decide.specs.Decision.{signed_answer}
use Rattle.sudo_compiled.specs.Compiled.{plain_answer}
use Rattle.sudo_compiled.proofs.WrittenLists.{turned_list}
use Rattle.sudo_compiled.proofs.few.turned_plains_say.Goals as goal

pub returns : goal.returns
returns c =
    c.signed.ensures
    ∙ ap (signed_answer c.args.negated) c.plains_say.ensures
    ∙ sym (turned_list (plain_answer c.args.asked.now) c.args.negated c.args.list.now)
