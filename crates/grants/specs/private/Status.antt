-- What an admitted request has come to, from the marks of its summary. For private clauses.
use Rattle.std.specs.Prelude.{◌≡◌, ◌≤◌, ℕ, zero, suc, Bool, true, ◌&&◌, nat_le}
use Rattle.std.specs.Prelude.{max, if◌then◌else◌, List, Option, Some, None}
use Rattle.std.specs.List.{list_any}
use Rattle.sudo_words.specs.declared.cmnd.Cmnd.{Cmnd}
use Rattle.messages.specs.Fields.{RequestFields}
use Rattle.messages.specs.declared.kind.VerdictKind.TheVariants as kinds
use Rattle.roster.specs.Fields.{CeilingFields, RosterFields}
use Rattle.roster.specs.Relations.{ceiling_at}
use Rattle.grants.specs.Admission.{AdmitsRequest}
use Rattle.grants.specs.private.Firsts.{has_counting, nth_of}
use Rattle.grants.specs.Summaries.{Kept}
use Rattle.grants.specs.declared.marks.Mark.{Mark}
use Rattle.grants.specs.declared.outcome.Status.{Status}
use Rattle.grants.specs.declared.outcome.Status.TheVariants.{Refused, Waiting, Void, Granted}

-- The roster admits the request, and this is its ceiling.
pub record IsAdmittedUnder (f : RosterFields Cmnd)
    (q : RequestFields) (c : CeilingFields Cmnd) : Type 0 where
  pub admits : AdmitsRequest f q
  pub ceiling_is : ceiling_at f q.ceiling ≡ Some c
  pub needs : (1 ≤ c.needs) × (c.needs ≤ 3)

abbrev pub completion : RosterFields Cmnd → CeilingFields Cmnd → Kept → Option ℕ
completion f c k = nth_of (has_counting f c kinds.Approve k.request.by) c.needs k.approvals

abbrev pub revocation : RosterFields Cmnd → CeilingFields Cmnd → Kept → Option ℕ
revocation f c k = nth_of (has_counting f c kinds.Revoke k.request.by) 1 k.revocations

-- not after the completion, if there is one
abbrev pub is_in_time : Option ℕ → ℕ → Bool
is_in_time None moment = true
is_in_time (Some complete) moment = nat_le moment complete

abbrev pub refuses : (Mark → Bool) → Option ℕ → Mark → Bool
refuses test complete mark = is_in_time complete mark.at && test mark

abbrev pub is_refused : (Mark → Bool) → Option ℕ → List Mark → Bool
is_refused test complete marks = list_any (refuses test complete) marks

abbrev pub before : ℕ → Option ℕ
before zero = None
before (suc moment) = Some moment

-- the last moment up to `until` that is not revoked
abbrev pub end_of : ℕ → Option ℕ → Option ℕ
end_of until None = Some until
end_of until (Some revoked) = if nat_le revoked until then before revoked else Some until

abbrev pub window : ℕ → Option ℕ → Status
window start None = Void
window start (Some end) =
    if nat_le start end then Granted (record { start = start; end = end }) else Void

abbrev pub from_complete : RosterFields Cmnd → CeilingFields Cmnd → Kept → Option ℕ → Status
from_complete f c k None = Waiting
from_complete f c k (Some complete) =
    window (max k.request.from complete) (end_of k.request.until (revocation f c k))

abbrev pub unless_refused : Bool → Status → Status
unless_refused refused status = if refused then Refused else status

abbrev pub admitted_status : RosterFields Cmnd → CeilingFields Cmnd → Kept → Status
admitted_status f c k =
    unless_refused (is_refused (has_counting f c kinds.Refuse k.request.by)
    (completion f c k) k.refusals) (from_complete f c k (completion f c k))
