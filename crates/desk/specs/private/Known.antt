-- What is known of a desk's messages. For private clauses.
use Rattle.std.specs.Prelude.{◌≡◌, ℕ, List, [], ◌∷◌, ◌++◌, Option, Some, None, IfSome}
use Rattle.sudo_words.specs.declared.cmnd.Cmnd.{Cmnd}
use Rattle.messages.specs.declared.message.Message.{Message}
use Rattle.roster.specs.Fields.{RosterFields}
use Rattle.outcomes.specs.Gathered.{AreGathered}
use Rattle.suspects.specs.LookedAt.{AreKnownSuspects}
use Rattle.store_tables.specs.Sets.{IsNothing, Lists}
use Rattle.store_tables.specs.declared.arrival.Arrival.{Arrival}
use Rattle.store_tables.specs.declared.arrival.Arrival.TheVariants.{New, Held}
use Rattle.desk_store.specs.Keeping.{IsCountOf, IsKnownOf}
use Rattle.desk.specs.Count.{IsCount}
use Rattle.desk.specs.declared.loading.Known.{Known}
use Rattle.desk.specs.declared.opening.Origin.{Origin}
use Rattle.desk.specs.declared.opening.Origin.TheVariants.{Found, Made}

-- the set has so many messages, if they were counted
abbrev pub IsCounted : List Message → Option ℕ → Type 0
IsCounted set None = Unit {0}
IsCounted set (Some count) = IsCount set count

-- the set after the message came: with the message where it was new, and as it was where the set
-- had the message
abbrev pub set_after : Arrival → List Message → Message → List Message
set_after New set m = set ++ m ∷ []
set_after Held set m = set

-- this is known of the listed set under the roster
abbrev pub IsKnownIn : RosterFields Cmnd → List Message → Known → Type 0
IsKnownIn f set known = AreGathered set known.gathered × IsCounted set known.count
    × AreKnownSuspects f set known.suspects

-- While the keeper is up, this is known of the set under the roster, unless nothing is known.
abbrev pub IsKnown : RosterFields Cmnd → (Up : Type 0)
    → (Message → Type 0) → Option Known → Type 0
IsKnown f Up S None = Unit {0}
IsKnown f Up S (Some known) = Up → (set : List Message) × Lists S set × IsKnownIn f set known

-- Something is known only while the keeper is up, as long as its disk has been honest.
abbrev pub IsKnownOfUp : (Clean Up : Type 0) → Option Known → Type 0
IsKnownOfUp Clean Up None = Unit {0}
IsKnownOfUp Clean Up (Some known) = Clean → Up

-- A desk that was made holds nothing. Where a desk was found, what the look told of its messages,
-- if anything, is known of what the desk holds, and so is the number of messages that the look
-- told, if any.
abbrev pub IsOriginOf : (Message → Type 0) → Origin → Type 0
IsOriginOf S Made = IsNothing S
IsOriginOf S (Found told count) = IfSome told (IsKnownOf S) × IfSome count (IsCountOf S)

-- What is known at first: for a desk that was made, what is gathered from no messages; for a desk
-- that was found, what the look told, and how many messages there are, if the look told that. No
-- report was made yet.
abbrev pub IsKnownAtFirst : Origin → Option Known → Type 0
IsKnownAtFirst Made None = Unit {0}
IsKnownAtFirst Made (Some known) =
    AreGathered [] known.gathered × IsCounted [] known.count × (known.suspects ≡ None)
IsKnownAtFirst (Found told count) None = Unit {0}
IsKnownAtFirst (Found told count) (Some known) =
    (told ≡ Some known.gathered) × (known.count ≡ count) × (known.suspects ≡ None)
