-- When two rosters agree on who may do what up to a moment, and differ only in later days.
use Rattle.std.specs.Prelude.{◌≡◌, ℕ, ◌≤◌, List}
use Rattle.std.specs.Map.{keys_of}
use Rattle.roster.specs.Fields.{RosterFields}
use Rattle.roster.specs.Relations.{holds}

-- The same people are listed, the same duties conflict, and the ceilings are the same; and at each
-- moment up to this one everybody holds the same duties. What people hold later may differ.
pub record AgreeUntil {C : Type 0} (moment : ℕ) (f g : RosterFields C) : Type 0 where
  pub people : keys_of f.people ≡ keys_of g.people
  pub conflicts : f.conflicts ≡ g.conflicts
  pub ceilings : f.ceilings ≡ g.ceilings
  pub duties : (person duty : List ℕ) (at : ℕ) → at ≤ moment
      → holds f person duty at ≡ holds g person duty at
