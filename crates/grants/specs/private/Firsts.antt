-- The moment by which so many people have given a verdict that counts. For private clauses.
use Rattle.std.specs.Prelude.{ℕ, zero, suc, ◌-◌, ◌++◌, Bool, true, ◌&&◌, not, nat_lt}
use Rattle.std.specs.Prelude.{if◌then◌else◌, List, [], ◌∷◌, Option, Some, None, option_map}
use Rattle.std.specs.List.{list_any}
use Rattle.std.specs.Option.{option_and_then}
use Rattle.std.specs.Str.{bytes_eq}
use Rattle.sudo_words.specs.declared.cmnd.Cmnd.{Cmnd}
use Rattle.messages.specs.declared.kind.VerdictKind.{VerdictKind}
use Rattle.roster.specs.Fields.{CeilingFields, RosterFields}
use Rattle.grants.specs.Verdicts.{may_give}
use Rattle.grants.specs.declared.marks.Mark.{Mark}

-- the verdict of the kind that the mark keeps counts on what the asker asked for
abbrev pub has_counting : RosterFields Cmnd → CeilingFields Cmnd
    → VerdictKind → (asker : List ℕ) → Mark → Bool
has_counting f c kind asker mark = may_give f c kind mark.person asker mark.at

-- one of these people gave the mark
abbrev pub is_of : (people : List (List ℕ)) → Mark → Bool
is_of people mark = list_any (λ person. bytes_eq person mark.person) people

-- the mark passes, and none of these people gave it
abbrev pub is_of_another : (Mark → Bool) → (others : List (List ℕ)) → Mark → Bool
is_of_another test others mark = not (is_of others mark) && test mark

-- the mark is earlier than the other, if there is one
abbrev pub is_sooner : Mark → Option Mark → Bool
is_sooner mark None = true
is_sooner mark (Some other) = nat_lt mark.at other.at

-- the earliest of this mark and the marks that pass the test; where two have one moment, the mark
-- that comes first in the list
abbrev pub earliest_from : Option Mark → (Mark → Bool) → List Mark → Option Mark
earliest_from first test [] = first
earliest_from first test (mark ∷ more) =
    earliest_from (if is_sooner mark first && test mark then Some mark else first) test more

abbrev pub earliest_of : (Mark → Bool) → List Mark → Option Mark
earliest_of = earliest_from None

abbrev pub moment_of : Mark → ℕ
moment_of mark = mark.at

-- the moment by which one person other than these, and then so many more, have a mark that passes
abbrev pub after_others : (Mark → Bool) → (others : List (List ℕ))
    → (more : ℕ) → List Mark → Option ℕ
after_others test others zero marks =
    option_map moment_of (earliest_of (is_of_another test others) marks)
after_others test others (suc more) marks =
    option_and_then (λ first. after_others test (others ++ first.person ∷ []) more marks)
    (earliest_of (is_of_another test others) marks)

-- the moment by which n people have a mark that passes, for n of at least 1
abbrev pub nth_of : (Mark → Bool) → ℕ → List Mark → Option ℕ
nth_of test n marks = after_others test [] (n - 1) marks
