use Rattle.sudo_syntax.proofs.WorkedTexts.{ahead_spell, aliases_spell, dates_spell, continued_spell, signs_spell, note_spell, kinds_spell}
use Rattle.sudo_syntax.proofs.worked_laws.worked_texts.Goals as goal

pub returns : goal.returns
returns c = record {
  aliases = aliases_spell;
  dates = dates_spell;
  ahead = ahead_spell;
  continued = continued_spell;
  signs = signs_spell;
  comment = note_spell;
  kinds = kinds_spell;
}
