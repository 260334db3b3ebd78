use Rattle.std.proofs.Common.{◌≡◌, ℕ, ℤ, List, ◌||◌, ◌-◌, ◌≤◌, drop}
use Rattle.std.specs.List.{list_any}
use Rattle.store_opening.specs.private.Names.{is_at, differs}
use Rattle.store_opening.proofs.names.disputed.Given as goal

-- what was found, and what is left, give all
abbrev pub invariant-loop-i : goal.invariant-loop-i
invariant-loop-i l = (1 ≤ l.i) × ((asker : List ℕ) (number : ℤ)
    → (list_any (is_at asker number) l.names.items || differs asker number (drop (l.i - 1) l.asked)) ≡ differs asker number l.asked)
