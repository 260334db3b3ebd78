use Rattle.std.proofs.Common.{◌≡◌, map, take}
use Rattle.std.specs.Prelude.{All}
use Rattle.sudo_words.specs.Command.{IsLawful}
use Rattle.roster.specs.Fields.{entry_in_texts}
use Rattle.roster.specs.Rules.{IsCmndText, IsNamedCeiling}
use Rattle.roster.proofs.named.ceilings.Given as goal

-- those so far are named, and say what was read
abbrev pub invariant-loop-text : goal.invariant-loop-text
invariant-loop-text l = record {
  lawful : All (IsNamedCeiling IsLawful) l.ceilings.items;
  same : map entry_in_texts l.ceilings.items ≡ take l.text-index l.texts;
  named : All (IsNamedCeiling IsCmndText) (take l.text-index l.texts);
}
