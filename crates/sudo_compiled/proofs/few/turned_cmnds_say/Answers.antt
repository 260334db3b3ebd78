use Rattle.std.proofs.Common.{sym, ap, ◌∙◌}
use Rattle.sudo_decide.specs.Decision.{signed_answer}
use Rattle.sudo_compiled.specs.Compiled.{match_answer}
use Rattle.sudo_compiled.proofs.WrittenLists.{turned_list}
use Rattle.sudo_compiled.proofs.few.turned_cmnds_say.Goals as goal

pub returns : goal.returns
returns c =
    c.signed.ensures
    ∙ ap (signed_answer c.args.negated) c.cmnds_say.ensures
    ∙ sym (turned_list (match_answer c.args.path.now c.args.args.now) c.args.negated c.args.list.now)
