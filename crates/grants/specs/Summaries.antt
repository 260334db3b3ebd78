-- When a summary stands for a set of messages.
use Rattle.std.specs.Prelude.{◌≡◌, ◌≢◌, ◌↔◌, ℕ, Bool, true, false, List, Contains}
use Rattle.std.specs.Cmp.Lexicographic.{slice_cmp}
use Rattle.std.specs.List.Sorted.{IsStrictlySortedBy}
use Rattle.std.specs.Ordering.{nat_cmp, ordering_then}
use Rattle.std.specs.declared.cmp.Ordering.{Ordering}
use Rattle.messages.specs.Fields.{RequestFields, VerdictFields}
use Rattle.messages.specs.Names.{IsAbout, SameName}
use Rattle.messages.specs.declared.message.Message.{Message}
use Rattle.messages.specs.declared.message.Message.TheVariants.{Request, Verdict}
use Rattle.messages.specs.declared.kind.VerdictKind.TheVariants.{Approve, Refuse, Revoke}
use Rattle.grants.specs.declared.marks.Mark.{Mark}
use Rattle.grants.specs.Marks.{Keep}

-- what a summary keeps
pub record Kept : Type 0 where
  pub request : RequestFields
  pub is_disputed : Bool
  pub approvals : List Mark
  pub refusals : List Mark
  pub revocations : List Mark

-- The summary keeps one request of the set, is disputed exactly if the set has another request of
-- that name, and keeps for each person and each kind every moment at which the person has given a
-- verdict of the kind on the request.
pub record StandsFor (messages : List Message) (k : Kept) : Type 0 where
  pub asked : Contains messages (Request k.request)
  pub alone : k.is_disputed ≡ false → (p : RequestFields)
      → Contains messages (Request p) → SameName p k.request → p ≡ k.request
  pub other : k.is_disputed ≡ true
      → (p : RequestFields) × Contains messages (Request p) × SameName p k.request × (p ≢ k.request)
  pub approvals : Keep messages k.request Approve k.approvals
  pub refusals : Keep messages k.request Refuse k.refusals
  pub revocations : Keep messages k.request Revoke k.revocations

-- ---- approvals

-- by person in byte order, then by moment
abbrev pub approval_cmp : List ℕ × ℕ → List ℕ × ℕ → Ordering
approval_cmp a b = ordering_then (slice_cmp nat_cmp a.0 b.0) (nat_cmp a.1 b.1)

-- Each approval of the request, as its author and its moment, whether it counts or not; in order,
-- and each once.
pub record AreApprovals (messages : List Message)
    (q : RequestFields) (list : List (List ℕ × ℕ)) : Type 0 where
  pub in_order : IsStrictlySortedBy approval_cmp list
  pub each : (person : List ℕ) (moment : ℕ) → Contains list (person, moment) ↔ Contains messages
      (Verdict (record { at = moment; by = person; kind = Approve; no = q.no; of = q.by }))

-- ---- all verdicts

-- the set's verdicts on the request, whether they count or not
abbrev pub AreVerdictsOn : List Message → RequestFields → List VerdictFields → Type 0
AreVerdictsOn messages q list = (v : VerdictFields)
    → Contains list v ↔ (Contains messages (Verdict v) × IsAbout q v)
