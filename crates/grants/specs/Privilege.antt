-- Least privilege (NIST SP 800-53 AC-6): what a request asks for, what a ceiling holds, and which
-- ceilings and rosters give more.
use Rattle.std.specs.Prelude.{◌≡◌, ℕ, ◌≤◌, true, List, Contains, Some}
use Rattle.sudo_words.specs.declared.cmnd.Cmnd.{Cmnd}
use Rattle.messages.specs.Fields.{RequestFields}
use Rattle.roster.specs.Fields.{CeilingFields, RosterFields}
use Rattle.roster.specs.Relations.{ceiling_at, has_person, holds}
use Rattle.grants.specs.Reach.{Reaches}
use Rattle.grants.specs.Admission.{LiesInsideOne}

-- A grant of the request lets its asker run the path with these arguments, on the host and as the
-- target.
pub record AsksFor (r : RequestFields) (host target path : List ℕ)
    (args : List (List ℕ)) : Type 0 where
  pub host_is : Contains r.hosts host
  pub target_is : r.runas ≡ target
  pub cmnd : Cmnd
  pub of_request : Contains r.cmnds cmnd
  pub reaches_it : Reaches cmnd path args

-- The ceiling allows running the path with these arguments, on the host and as the target.
pub record CeilingAllows (c : CeilingFields Cmnd)
    (host target path : List ℕ) (args : List (List ℕ)) : Type 0 where
  pub host_is : Contains c.hosts host
  pub target_is : Contains c.runas target
  pub cmnd : Cmnd
  pub of_ceiling : Contains c.commands cmnd
  pub reaches_it : Reaches cmnd path args

-- The second ceiling allows all that the first allows, for those who may ask under the first.
pub record IsWider (c d : CeilingFields Cmnd) : Type 0 where
  pub ask : d.ask ≡ c.ask
  pub hosts : (host : List ℕ) → Contains c.hosts host → Contains d.hosts host
  pub runas : (target : List ℕ) → Contains c.runas target → Contains d.runas target
  pub commands : (cmnd : Cmnd) → Contains c.commands cmnd → LiesInsideOne d.commands cmnd
  pub longest : c.longest ≤ d.longest

-- The second roster lists all whom the first lists, with all their duties at each moment, and has a
-- ceiling at least as wide for each ceiling of the first.
pub record GivesMore (f g : RosterFields Cmnd) : Type 0 where
  pub people : (person : List ℕ) → has_person f person ≡ true → has_person g person ≡ true
  pub duties : (person duty : List ℕ) (at : ℕ)
      → holds f person duty at ≡ true → holds g person duty at ≡ true
  pub ceilings : (label : List ℕ) (c : CeilingFields Cmnd) → ceiling_at f label ≡ Some c
      → (d : CeilingFields Cmnd) × (ceiling_at g label ≡ Some d) × IsWider c d
