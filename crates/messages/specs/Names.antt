-- The names of requests, the order of names, and lists of messages that stand for the same set.
use Rattle.std.specs.Prelude.{◌≡◌, ◌<◌, ◌⊎◌, List, Contains}
use Rattle.std.specs.Cmp.Lexicographic.{slice_cmp}
use Rattle.std.specs.Ordering.{nat_cmp, ordering_then}
use Rattle.std.specs.declared.cmp.Ordering.{Ordering}
use Rattle.messages.specs.Fields.{RequestFields, VerdictFields}
use Rattle.messages.specs.Order.{TextPrecedes}
use Rattle.messages.specs.declared.message.Message.{Message}
use Rattle.messages.specs.declared.message.Message.TheVariants.{Request}
pub use Rattle.messages.specs.declared.request_name.RequestName.{RequestName}

-- ---- the name of a request: who asked, and the number that the asker gave it

abbrev pub name_of : RequestFields → RequestName
name_of q = record { by = q.by; no = q.no }

-- the name of the request that a verdict is about
abbrev pub name_meant : VerdictFields → RequestName
name_meant v = record { by = v.of; no = v.no }

-- the request has this name
abbrev pub IsNamed : RequestFields → RequestName → Type 0
IsNamed q name = (q.by ≡ name.by) × (q.no ≡ name.no)

-- both requests have the same name
abbrev pub SameName : RequestFields → RequestFields → Type 0
SameName p q = (p.by ≡ q.by) × (p.no ≡ q.no)

-- the verdict is about the request: it names who asked, and the number
abbrev pub IsAbout : RequestFields → VerdictFields → Type 0
IsAbout q v = (v.of ≡ q.by) × (v.no ≡ q.no)

-- ---- the order of names: by the asker in byte order, then by the number

abbrev pub NamePrecedes : (a b : RequestName) → Type 0
NamePrecedes a b = TextPrecedes a.by b.by ⊎ ((a.by ≡ b.by) × (a.no < b.no))

-- the same, as the program compares two names
abbrev pub name_cmp : RequestName → RequestName → Ordering
name_cmp a b = ordering_then (slice_cmp nat_cmp a.by b.by) (nat_cmp a.no b.no)

-- ---- sets of messages

-- The set has no request with the name.
abbrev pub NobodyAsks : List Message → RequestName → Type 0
NobodyAsks messages name = (q : RequestFields) → Contains messages (Request q) → ¬ IsNamed q name

-- Each list contains what the other contains: neither order nor repeats mean anything.
abbrev pub SameMessages : List Message → List Message → Type 0
SameMessages s t = (m : Message) → (Contains s m → Contains t m) × (Contains t m → Contains s m)
