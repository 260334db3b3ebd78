-- Verdicts that do not count change nothing, and whose verdicts do not count.
use Rattle.std.proofs.Common.{◌≡◌, ◌≢◌, ℕ, Bool, true, false, ◌||◌, List, [], ◌∷◌, ◌++◌, refl, sym, subst, inl, inr}
use Rattle.std.specs.List.{Contains}
use Rattle.std.proofs.lemmas.Bool.{both_ways, false_from_ne_true}
use Rattle.std.proofs.lemmas.List.Elements.{Contains-append_left, Contains-push_cases}
use Rattle.std.proofs.lemmas.Slice.Eq.{bytes_eq-Decides}
use Rattle.sudo_words.specs.declared.cmnd.Cmnd.{Cmnd}
use Rattle.messages.specs.Fields.{RequestFields, VerdictFields}
use Rattle.messages.specs.Names.{IsAbout}
use Rattle.messages.specs.declared.request_name.RequestName.{RequestName}
use Rattle.messages.specs.declared.message.Message.{Message}
use Rattle.messages.specs.declared.message.Message.TheVariants.{Request, Verdict}
use Rattle.messages.specs.declared.kind.VerdictKind.{VerdictKind}
use Rattle.messages.specs.declared.kind.VerdictKind.TheVariants.{Approve, Refuse, Revoke}
use Rattle.messages.proofs.OneMessage.{one_verdict}
use Rattle.roster.specs.Fields.{CeilingFields, RosterFields}
use Rattle.roster.specs.Relations.{conflicting, eligible, holds}
use Rattle.roster.proofs.DutyLemmas.{not_who_asks, holds_duty, not_against}
use Rattle.grants.specs.Verdicts.{may_give, counts, IsGiven}
use Rattle.grants.specs.Statuses.{IsStatus}
use Rattle.grants.specs.Counting.{NeverCounts}
use Rattle.grants.specs.declared.outcome.Status.{Status}
use Rattle.grants.proofs.StatusLaws.{same_status}

-- ---- a verdict that never counts

pub asked_before : (set : List Message) (v : VerdictFields) (q : RequestFields) → Contains (set ++ Verdict v ∷ []) (Request q) → Contains set (Request q)
asked_before set v q h =
    elim (Contains-push_cases set (Verdict v) (Request q) h) as (λ _. Contains set (Request q)) [ inl old ↦ old | inr new ↦ absurd cc ]

pub given_after : (f : RosterFields Cmnd) (set : List Message) (v w : VerdictFields) (q : RequestFields) (kind : VerdictKind)
    → IsGiven f set q kind w → IsGiven f (set ++ Verdict v ∷ []) q kind w
given_after f set v w q kind g = record {
  given = Contains-append_left set (Verdict v ∷ []) (Verdict w) g.given;
  about = g.about;
  kind_is = g.kind_is;
  ceiling = g.ceiling;
  ceiling_is = g.ceiling_is;
  counts_is = g.counts_is;
}

pub given_before : (f : RosterFields Cmnd) (set : List Message) (v w : VerdictFields) (q : RequestFields) (kind : VerdictKind)
    → NeverCounts f set v → Contains set (Request q) → IsGiven f (set ++ Verdict v ∷ []) q kind w → IsGiven f set q kind w
given_before f set v w q kind never asked g = record {
  given = elim (Contains-push_cases set (Verdict v) (Verdict w) g.given) as (λ _. Contains set (Verdict w)) [
    | inl old ↦ old
    | inr new ↦ absurd (both_ways _ (never q g.ceiling asked (subst (IsAbout q) (sym (one_verdict v w new)) g.about) g.ceiling_is)
        (subst (λ (x : VerdictFields). counts f g.ceiling x ≡ true) (sym (one_verdict v w new)) g.counts_is))
  ];
  about = g.about;
  kind_is = g.kind_is;
  ceiling = g.ceiling;
  ceiling_is = g.ceiling_is;
  counts_is = g.counts_is;
}

pub added : (f : RosterFields Cmnd) (set : List Message) (v : VerdictFields) (name : RequestName) (status : Status)
    → NeverCounts f set v → IsStatus f set name status → IsStatus f (set ++ Verdict v ∷ []) name status
added f set v name status never x =
    same_status f set (set ++ Verdict v ∷ []) name status
    (λ q. (Contains-append_left set (Verdict v ∷ []) (Request q), asked_before set v q))
    (λ q asked kind w. (given_after f set v w q kind, given_before f set v w q kind never asked)) x

pub taken_away : (f : RosterFields Cmnd) (set : List Message) (v : VerdictFields) (name : RequestName) (status : Status)
    → NeverCounts f set v → IsStatus f (set ++ Verdict v ∷ []) name status → IsStatus f set name status
taken_away f set v name status never x =
    same_status f (set ++ Verdict v ∷ []) set name status
    (λ q. (asked_before set v q, Contains-append_left set (Verdict v ∷ []) (Request q)))
    (λ q asked kind w. (given_before f set v w q kind never (asked_before set v q asked), given_after f set v w q kind)) x

-- ---- separation of duties

-- whoever is not eligible gives no approval and no refusal that counts
not_eligible : (f : RosterFields Cmnd) (c : CeilingFields Cmnd) (kind : VerdictKind) (person asker : List ℕ) (at : ℕ)
    → kind ≢ Revoke → eligible f person asker c at ≡ false → may_give f c kind person asker at ≡ false
not_eligible f c Approve person asker at other h = h
not_eligible f c Refuse person asker at other h = h
not_eligible f c Revoke person asker at other h = absurd (other refl)

pub own_verdict : (f : RosterFields Cmnd) (c : CeilingFields Cmnd) (v : VerdictFields) → v.kind ≢ Revoke → v.by ≡ v.of → counts f c v ≡ false
own_verdict f c v other own =
    not_eligible f c v.kind v.by v.of v.at other
    (subst (λ (person : List ℕ). eligible f person v.of c v.at ≡ false) (sym own) (not_who_asks f v.of c v.at))

pub conflicting_duty : (f : RosterFields Cmnd) (c : CeilingFields Cmnd) (v : VerdictFields) (duty : List ℕ)
    → v.kind ≢ Revoke → holds f v.by duty v.at ≡ true → conflicting f duty c.approve ≡ true → counts f c v ≡ false
conflicting_duty f c v duty other held conflict =
    not_eligible f c v.kind v.by v.of v.at other
    (not_against f v.by v.of duty c v.at held conflict)

either : (a b : Bool) → a ≡ false → b ≡ false → (a || b) ≡ false
either a b x y = rw (x, y) refl

pub without_duty : (f : RosterFields Cmnd) (c : CeilingFields Cmnd) (v : VerdictFields)
    → v.by ≢ v.of → holds f v.by c.approve v.at ≡ false → counts f c v ≡ false
without_duty f c v other lacks = lacking v.kind
  where
    no_approver : eligible f v.by v.of c v.at ≡ false
    no_approver = false_from_ne_true _ (λ e. both_ways _ lacks (holds_duty f v.by v.of c v.at e))

    lacking : (kind : VerdictKind) → may_give f c kind v.by v.of v.at ≡ false
    lacking Approve = no_approver
    lacking Refuse = no_approver
    lacking Revoke =
        either _ _ (false_from_ne_true _ (λ e. other ((bytes_eq-Decides v.by v.of).0 e))) lacks
