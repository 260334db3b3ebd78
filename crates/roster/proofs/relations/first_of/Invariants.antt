use Rattle.std.proofs.Common.{◌≡◌, true, not, take}
use Rattle.std.specs.List.{list_all}
use Rattle.roster.specs.Rules.{is_among}
use Rattle.sudo_words.specs.Lists.{is_before}
use Rattle.roster.proofs.relations.first_of.Given as goal

-- one of the words, and none of those so far comes before it
abbrev pub invariant-loop-word : goal.invariant-loop-word
invariant-loop-word g l = record {
  among : is_among l.words l.first ≡ true;
  first : list_all (λ v. not (is_before v l.first)) (take l.word-index l.words) ≡ true;
}
