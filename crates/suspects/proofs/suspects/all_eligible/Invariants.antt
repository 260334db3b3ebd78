use Rattle.std.proofs.Common.{◌≡◌, ℕ, true, List, take}
use Rattle.std.specs.List.{Contains}
use Rattle.roster.specs.Relations.{eligible}
use Rattle.suspects.proofs.suspects.all_eligible.Given as goal

abbrev pub invariant-loop-person : goal.invariant-loop-person
invariant-loop-person l =
    (person : List ℕ) (at : ℕ) → Contains (take l.person-index l.approvals) (person, at) → eligible l.roster.says person l.asker l.ceiling at ≡ true
