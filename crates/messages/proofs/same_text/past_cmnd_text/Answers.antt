use Rattle.std.proofs.Common.{ap, sym, ◌∙◌}
use Rattle.sudo_words.specs.Command.{cmnd_text}
use Rattle.sudo_words.specs.declared.cmnd.Cmnd.{Cmnd}
use Rattle.messages.specs.Wire.{escaped}
use Rattle.messages.proofs.Passing.{past_same, past_both, all_text, path_text}
use Rattle.messages.proofs.same_text.past_cmnd_text.Goals as goal

pub returns-in-All : goal.returns-in-All
returns-in-All c = past_same c.past.ensures (all_text ∙ ap (λ (d : Cmnd). escaped (cmnd_text d)) (sym c.in-All.is))

pub returns-in-Path : goal.returns-in-Path
returns-in-Path c =
    past_same (past_both c.past_escaped.ensures c.past_rule.ensures) (path_text c.as_bytes.result.now c.in-Path.file c.in-Path.rule
    (c.as_bytes.ensures.value ∙ c.as_str.ensures.value) ∙ ap (λ (d : Cmnd). escaped (cmnd_text d)) (sym c.in-Path.is))
