-- What a look at a keeper tells, what is known of a desk's messages and how many they are, and what
-- a count of failures says.
use Rattle.std.specs.Prelude.{◌≡◌, ◌≢◌, ⊤, ℕ, ◌+◌, ◌-◌, ◌^◌, List, length, min, string_bytes}
use Rattle.std.specs.Prelude.{AllPairs, IfSome}
use Rattle.messages.specs.declared.message.Message.{Message}
use Rattle.store_tables.specs.Sets.{Lists}
use Rattle.outcomes.specs.Gathered.{AreGathered, Known}
pub use Rattle.store_tables.specs.Causes.{HasFailed}
use Rattle.desk_store.specs.declared.found.Found.{Found}
use Rattle.desk_store.specs.declared.found.FoundDesk.{FoundDesk}
use Rattle.desk_store.specs.declared.found.Found.TheVariants as found

-- a look tells exactly one of the four, and a desk's roster text
abbrev pub Tells : (Empty Desk Old : Type 0) → (roster : List ℕ) → Found → Type 0
Tells Empty Desk Old roster found.Empty = Empty × (¬ Desk) × (¬ Old)
Tells Empty Desk Old roster (found.Desk desk) =
    Desk × (¬ Empty) × (¬ Old) × (string_bytes desk.roster ≡ roster)
Tells Empty Desk Old roster found.OldDesk = Old × (¬ Empty) × (¬ Desk)
Tells Empty Desk Old roster found.NotADesk = (¬ Empty) × (¬ Desk) × (¬ Old)

-- a desk, of today's form or of an older one
abbrev pub FindsSomeDesk : Found → Type 0
FindsSomeDesk found.Empty = ⊥
FindsSomeDesk (found.Desk desk) = ⊤
FindsSomeDesk found.OldDesk = ⊤
FindsSomeDesk found.NotADesk = ⊥

-- What is known of the set's messages, in whatever order they are listed.
abbrev pub IsKnownOf : (Message → Type 0) → Known → Type 0
IsKnownOf S known = (list : List Message) × Lists S list × AreGathered list known

-- the list has so many messages, no two of which are the same
abbrev pub IsCountIn : List Message → ℕ → Type 0
IsCountIn list n = AllPairs (λ x y. x ≢ y) list × (length list ≡ n)

-- The set has so many messages: as many as a list that has each of them once, and no other.
abbrev pub IsCountOf : (Message → Type 0) → ℕ → Type 0
IsCountOf S n = (list : List Message) × Lists S list × IsCountIn list n

-- if the look found a desk, this holds of what the look tells of the desk
abbrev pub IfDesk : (FoundDesk → Type 0) → Found → Type 0
IfDesk Says found.Empty = ⊤
IfDesk Says (found.Desk desk) = Says desk
IfDesk Says found.OldDesk = ⊤
IfDesk Says found.NotADesk = ⊤

-- what a look tells of a desk's messages, if anything, is known of the set's messages
abbrev pub TellsKnown : (Message → Type 0) → Found → Type 0
TellsKnown S = IfDesk (λ desk. IfSome desk.known (IsKnownOf S))

-- if a look tells how many messages a desk has, the set has so many
abbrev pub TellsCount : (Message → Type 0) → Found → Type 0
TellsCount S = IfDesk (λ desk. IfSome desk.count (IsCountOf S))

-- two counts of failures as one, up to the greatest number of 64 bits
abbrev pub together : (below own : ℕ) → ℕ
together below own = min (below + own) (2 ^ 64 - 1)
