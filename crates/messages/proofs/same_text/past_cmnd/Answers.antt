use Rattle.sudo_words.specs.Command.{cmnd_text}
use Rattle.messages.proofs.Passing.{past_same, past_both, behind_head}
use Rattle.messages.proofs.same_text.past_cmnd.Goals as goal

pub returns : goal.returns
returns c =
    past_same (past_both (past_both (past_both c.past.ensures c.past-rest.ensures) c.past_cmnd_text-rest.ensures) c.past-2.ensures)
    (behind_head c.args.head.now (cmnd_text c.args.cmnd.now))
