-- What is kept for a set of messages beside their texts: a row for each name with a request, and
-- the verdicts. A set is seen as the predicate that says whether a message is in it.
use Rattle.std.specs.Prelude.{◌≡◌, ◌≢◌, ◌↔◌, Bool, true, false, List, Contains}
use Rattle.messages.specs.Fields.{RequestFields, VerdictFields}
use Rattle.messages.specs.Names.{SameName}
use Rattle.messages.specs.declared.name_row.NameRow.{NameRow}
use Rattle.messages.specs.declared.message.Message.{Message}
use Rattle.messages.specs.declared.message.Message.TheVariants.{Request, Verdict}

-- the set has another request with the request's name, or has none
abbrev pub IsMarked : (Message → Type 0) → RequestFields → (disputed : Bool) → Type 0
IsMarked S q true = (p : RequestFields) × S (Request p) × SameName p q × (p ≢ q)
IsMarked S q false = (p : RequestFields) → S (Request p) → SameName p q → p ≡ q

-- Each name with a request has one row, which has one such request and tells whether there is
-- another; and the verdicts are those of the set, whether their request is there or not.
pub record ShowSet (S : Message → Type 0) (names : List NameRow)
    (verdicts : List VerdictFields) : Type 0 where
  pub each : (row : NameRow) → Contains names row
      → S (Request row.request) × IsMarked S row.request row.is_disputed
  pub all : (q : RequestFields) → S (Request q)
      → (row : NameRow) × Contains names row × SameName row.request q
  pub once : (a b : NameRow) → Contains names a
      → Contains names b → SameName a.request b.request → a ≡ b
  pub given : (v : VerdictFields) → Contains verdicts v ↔ S (Verdict v)
