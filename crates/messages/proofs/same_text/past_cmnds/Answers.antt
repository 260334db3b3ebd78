use Rattle.std.proofs.Common.{List, ap, map, ◌∙◌}
use Rattle.sudo_words.specs.Command.{cmnd_text}
use Rattle.sudo_words.specs.declared.cmnd.Cmnd.{Cmnd}
use Rattle.messages.specs.Wire.{list_text}
use Rattle.messages.proofs.Passing.{past_same, past_both, none_in, first_in, list_none, list_more}
use Rattle.messages.proofs.same_text.past_cmnds.Goals as goal

pub returns-in-empty : goal.returns-in-empty
returns-in-empty c =
    past_same c.past.ensures (list_none ∙ ap (λ (cs : List Cmnd). list_text (map cmnd_text cs)) (none_in c.args.cmnds.now c.in-empty.len_below))

pub returns-in-len1-up : goal.returns-in-len1-up
returns-in-len1-up c =
    let first = first_in c.args.cmnds.now c.cmnd-item.result c.in-len1-up.len_at_least c.cmnd-item.is in
    past_same (past_both c.past_cmnd.ensures c.past_more_cmnds.ensures) (list_more _ _ ∙ ap (λ (cs : List Cmnd). list_text (map cmnd_text cs)) first)
