-- Marks as verdicts come, and what they are shown as. For private clauses.
use Rattle.std.specs.Prelude.{ℕ, List}
use Rattle.std.specs.BTreeSet.{insert_key}
use Rattle.grants.specs.Marks.{mark_cmp}
use Rattle.grants.specs.declared.marks.Mark.{Mark}

-- the marks once the person has given one more
abbrev pub noted : List ℕ → ℕ → List Mark → List Mark
noted person moment marks = insert_key mark_cmp marks (record { person = person; at = moment })

-- what a mark is shown as
abbrev pub shown : Mark → List ℕ × ℕ
shown mark = (mark.person, mark.at)
