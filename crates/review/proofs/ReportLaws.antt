-- What a report says about needless grants, and about people whose approvals do not count.
use Rattle.std.proofs.Common.{◌≡◌, ℕ, Bool, true, false, not, ◌&&◌, if◌then◌else◌, List, [], ◌∷◌}
use Rattle.std.proofs.Common.{◌++◌, reverse, Some, None, refl, sym, ap, ap₂, ◌∙◌, subst, inl, inr}
use Rattle.std.specs.List.{Contains}
use Rattle.std.specs.Prelude.{◌↔◌}
use Rattle.std.proofs.lemmas.List.Elements.{Contains-push}
use Rattle.std.specs.Str.{bytes_eq}
use Rattle.sudo_words.specs.declared.cmnd.Cmnd.{Cmnd}
use Rattle.sudo_policy.specs.declared.entry.Entry.{Entry}
use Rattle.sudo_decide.specs.declared.decision.Decision.{Decision}
use Rattle.sudo_decide.specs.declared.decision.Decision.TheVariants.{Deny, Allow, AllowNoPassword}
use Rattle.sudo_decide.specs.declared.invocation.Invocation.{Invocation}
use Rattle.sudo_decide.specs.Decision.{Decides}
use Rattle.sudo_decide.proofs.Speakers.{some_decision}
use Rattle.messages.specs.Fields.{RequestFields, VerdictFields}
use Rattle.messages.specs.Names.{IsAbout}
use Rattle.messages.specs.declared.request_name.RequestName.{RequestName}
use Rattle.messages.specs.declared.message.Message.{Message}
use Rattle.messages.specs.declared.message.Message.TheVariants.{Verdict}
use Rattle.messages.specs.declared.kind.VerdictKind.{VerdictKind}
use Rattle.messages.specs.declared.kind.VerdictKind.TheVariants.{Approve}
use Rattle.roster.specs.Fields.{CeilingFields, RosterFields}
use Rattle.roster.specs.Relations.{ceiling_at, eligible, holds, holds_against}
use Rattle.grants.specs.Counting.{NeverCounts}
use Rattle.grants.specs.Statuses.{IsStatus}
use Rattle.grants.specs.Verdicts.{StandsAlone, may_give}
use Rattle.grants.specs.declared.outcome.Status.{Status}
use Rattle.grants.specs.declared.outcome.Window.{Window}
use Rattle.grants.proofs.CountingLaws.{added, taken_away}
use Rattle.suspects.specs.LookedAt.{approval}
use Rattle.review.specs.declared.need.Need.TheVariants.{Needless}
use Rattle.review.specs.declared.reason.Reason.{Reason}
use Rattle.review.specs.declared.reason.Reason.TheVariants.{Asker, Duty, Conflict}
use Rattle.review.specs.Barred.{HasApprovedAt, IsBarred, reason}
use Rattle.sudo_beyond.specs.Beyond.{Allows, IsInvocation}
use Rattle.review.specs.Needs.{IsNeed, own_policy}

-- ---- needless

allowed_or : (base : List Entry) (i : Invocation) (d : Decision) → Decides base i d → ¬ Decides base i Deny → Allows base i
allowed_or base i Deny is other = absurd (other is)
allowed_or base i Allow is other = inl is
allowed_or base i AllowNoPassword is other = inr is

pub needless_gives_nothing : (base : List Entry) (q : RequestFields) (w : Window) (i : Invocation) → IsNeed base q w Needless
    → IsInvocation i → i.user ≡ q.by → Contains q.hosts i.host → i.runas ≡ q.runas → Allows (own_policy q w i.host) i → Allows base i
needless_gives_nothing base q w i needless form user host runas allowed =
    let on = needless i.host host in
    let some = some_decision (reverse base) base i in
    allowed_or base i some.0 some.1 (λ refused. on.1 (
      i,
      record {
        form = form;
        scope = record { user = user; host = refl; runas = runas };
        gap = record { allowed = allowed; refused = refused };
      },
    ))

-- ---- barred

barred_by : (asker duty against : Bool) (r : Reason)
    → (if asker then Some Asker else if not duty then Some Duty else if against then Some Conflict else None) ≡ Some r
    → (not asker && duty && not against) ≡ false
barred_by true duty against r e = refl
barred_by false false against r e = refl
barred_by false true true r e = refl
barred_by false true false r e = absurd cc

open_by : (asker duty against : Bool) → (if asker then Some Asker else if not duty then Some Duty else if against then Some Conflict else None) ≡ None
    → (not asker && duty && not against) ≡ true
open_by true duty against e = absurd cc
open_by false false against e = absurd cc
open_by false true true e = absurd cc
open_by false true false e = refl

pub barred_is_not_eligible : (f : RosterFields Cmnd) (c : CeilingFields Cmnd) (asker person : List ℕ) (at : ℕ) (r : Reason)
    → reason f c asker person at ≡ Some r → eligible f person asker c at ≡ false
barred_is_not_eligible f c asker person at r e = barred_by (bytes_eq person asker) (holds f person c.approve at) (holds_against f person c.approve at) r e

pub unbarred_is_eligible : (f : RosterFields Cmnd) (c : CeilingFields Cmnd) (asker person : List ℕ) (at : ℕ)
    → reason f c asker person at ≡ None → eligible f person asker c at ≡ true
unbarred_is_eligible f c asker person at e = open_by (bytes_eq person asker) (holds f person c.approve at) (holds_against f person c.approve at) e

same_ceiling : (f : RosterFields Cmnd) (label : List ℕ) (c d : CeilingFields Cmnd) → ceiling_at f label ≡ Some c → ceiling_at f label ≡ Some d → c ≡ d
same_ceiling f label c d was is = let both : Some c ≡ Some d = sym was ∙ is in cc

-- the verdict is the person's approval at its moment
own_approval : (q : RequestFields) (v : VerdictFields) → IsAbout q v → v.kind ≡ Approve → v ≡ approval q v.by v.at
own_approval q v about kind =
    ap (λ (k : VerdictKind). record { at = v.at; by = v.by; kind = k; no = v.no; of = v.of }) kind
    ∙ ap₂ (λ (n : ℕ) (of : List ℕ). record { at = v.at; by = v.by; kind = Approve; no = n; of = of }) about.1 about.0

never_counts : (f : RosterFields Cmnd) (set : List Message) (q : RequestFields) (c : CeilingFields Cmnd) (v : VerdictFields) (r : Reason)
    → StandsAlone set q → ceiling_at f q.ceiling ≡ Some c → IsAbout q v → v.kind ≡ Approve
    → IsBarred f c q.by v.by (HasApprovedAt (set ++ Verdict v ∷ []) q v.by) r → NeverCounts f set v
never_counts f set q c v r alone ceiling_is about kind barred p d asked about_p ceiling_p =
    let same : p ≡ q = alone.alone p asked (sym about_p.0 ∙ about.0, sym about_p.1 ∙ about.1) in
    let ceilings : c ≡ d = same_ceiling f q.ceiling c d ceiling_is (subst (λ (x : RequestFields). ceiling_at f x.ceiling ≡ Some d) same ceiling_p) in
    let there : HasApprovedAt (set ++ Verdict v ∷ []) q v.by v.at =
    subst (λ (x : VerdictFields). Contains (set ++ Verdict v ∷ []) (Verdict x)) (own_approval q v about kind) (Contains-push set (Verdict v)) in
    let out : eligible f v.by q.by c v.at ≡ false = barred.never v.at there in
    let here : eligible f v.by v.of d v.at ≡ false = subst (λ (x : CeilingFields Cmnd). eligible f v.by v.of x v.at ≡ false) ceilings
    (subst (λ (x : List ℕ). eligible f v.by x c v.at ≡ false) (sym about.0) out) in
    ap (λ (k : VerdictKind). may_give f d k v.by v.of v.at) kind ∙ here

pub barred_changes_nothing : (f : RosterFields Cmnd) (set : List Message) (q : RequestFields) (c : CeilingFields Cmnd)
    (v : VerdictFields) (r : Reason) (name : RequestName) (status : Status)
    → StandsAlone set q → ceiling_at f q.ceiling ≡ Some c → IsAbout q v → v.kind ≡ Approve
    → IsBarred f c q.by v.by (HasApprovedAt (set ++ Verdict v ∷ []) q v.by) r → IsStatus f set name status ↔ IsStatus f (set ++ Verdict v ∷ []) name status
barred_changes_nothing f set q c v r name status alone ceiling_is about kind barred =
    let never = never_counts f set q c v r alone ceiling_is about kind barred in
    (added f set v name status never, taken_away f set v name status never)
