use Rattle.std.proofs.Common.{◌≡◌, ℕ, ℤ, List, take}
use Rattle.std.specs.Prelude.{count_by}
use Rattle.store_opening.specs.private.Names.{is_at, name_is}
use Rattle.store_opening.proofs.once.names_in.Given as goal

-- each name counts as among the rows that were gone through
abbrev pub invariant-loop-row : goal.invariant-loop-row
invariant-loop-row l = (asker : List ℕ) (number : ℤ) → count_by (is_at asker number) l.names.items ≡ count_by (name_is asker number) (take l.row-index l.rows)
