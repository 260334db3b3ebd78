-- The summaries of a set of messages.
use Rattle.std.specs.Prelude.{◌≡◌, false, List, [], ◌∷◌, Contains}
use Rattle.messages.specs.Fields.{RequestFields}
use Rattle.messages.specs.Names.{IsNamed, NamePrecedes, SameName, name_of}
use Rattle.messages.specs.declared.message.Message.{Message}
use Rattle.messages.specs.declared.message.Message.TheVariants.{Request}
use Rattle.grants.specs.Summaries.{Kept, StandsFor}
use Rattle.messages.specs.Order.{AreInOrder}

abbrev pub SummaryPrecedes : (a b : Kept) → Type 0
SummaryPrecedes a b = NamePrecedes (name_of a.request) (name_of b.request)

-- One summary for each name that somebody asks under, in the order of the names, and each stands
-- for the set.
pub record AreSummaries (messages : List Message) (list : List Kept) : Type 0 where
  pub in_order : AreInOrder SummaryPrecedes list
  pub each : (k : Kept) → Contains list k → StandsFor messages k
  pub all : (q : RequestFields) → Contains messages (Request q)
      → (k : Kept) × Contains list k × IsNamed k.request (name_of q)

-- Two summaries are of one name and keep the same; if the name is disputed, they may keep different
-- requests.
pub record KeepTheSame (a b : Kept) : Type 0 where
  pub named : SameName a.request b.request
  pub alone : a.is_disputed ≡ false → a.request ≡ b.request
  pub disputed : a.is_disputed ≡ b.is_disputed
  pub approvals : a.approvals ≡ b.approvals
  pub refusals : a.refusals ≡ b.refusals
  pub revocations : a.revocations ≡ b.revocations

-- this holds for each pair in turn, and neither list is longer
abbrev pub AllKeepTheSame : (a b : List Kept) → Type 0
AllKeepTheSame [] [] = Unit {0}
AllKeepTheSame [] (l ∷ ls) = ⊥
AllKeepTheSame (k ∷ ks) [] = ⊥
AllKeepTheSame (k ∷ ks) (l ∷ ls) = KeepTheSame k l × AllKeepTheSame ks ls
