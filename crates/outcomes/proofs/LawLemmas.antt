-- Laws of what a set of messages grants.
use Rattle.std.proofs.Common.{◌≡◌, ◌≢◌, ℕ, ◌≤◌, ◌<◌, false, nat_le, List, [], ◌∷◌, ◌++◌, refl, sym, ap, ◌∙◌, subst, inl, inr, arith}
use Rattle.std.specs.List.{Contains}
use Rattle.std.proofs.lemmas.Bool.{cases_Bool, leb-true, leb-false}
use Rattle.std.proofs.lemmas.List.Elements.{Contains-append_left, Contains-push, Contains-push_cases}
use Rattle.sudo_words.specs.declared.cmnd.Cmnd.{Cmnd}
use Rattle.messages.specs.Fields.{RequestFields, VerdictFields}
use Rattle.messages.specs.Names.{IsAbout, name_meant, name_of, NobodyAsks, SameMessages, SameName}
use Rattle.messages.specs.Wire.{IsMessage, wire}
use Rattle.messages.specs.declared.message.Message.{Message}
use Rattle.messages.specs.declared.message.Message.TheVariants.{Request, Verdict}
use Rattle.messages.specs.declared.kind.VerdictKind.{VerdictKind}
use Rattle.messages.specs.declared.kind.VerdictKind.TheVariants.{Approve, Refuse, Revoke}
use Rattle.messages.proofs.Uniqueness.{one_message}
use Rattle.roster.specs.Fields.{RosterFields}
use Rattle.grants.specs.Admission.{AdmitsRequest}
use Rattle.grants.specs.Counting.{NeverCounts}
use Rattle.grants.specs.Statuses.{InWindow, IsStatus}
use Rattle.grants.specs.Verdicts.{ApprovedBy, HasGiven, IsComplete, IsGiven, IsRefused, RevokedBy, StandsAlone, may_give}
use Rattle.grants.specs.declared.outcome.Status.TheVariants.{Disputed, Refused}
use Rattle.grants.proofs.CountingLaws.{asked_before, conflicting_duty, given_after, given_before, own_verdict}
use Rattle.grants.proofs.StatusLaws.{at_least_more}
use Rattle.outcomes.specs.Parked.{AreParked}
use Rattle.outcomes.specs.Same.{GrantTheSame}
use Rattle.outcomes.specs.Uncounted.{HoldsConflicting, MayNotRevoke}
use Rattle.outcomes.proofs.SetLemmas.{Alike, alike_from_given, alike_sets, covers_alike, file_after_alike}
use Rattle.outcomes.proofs.SetLemmas.{file_alike, live_alike, outcome_alike, turned, window_alike}

pub grant_the_same : (f : RosterFields Cmnd) (s t : List Message) → Alike f s t → GrantTheSame f s t
grant_the_same f s t a =
    let b = turned f s t a in
    record {
      statuses = λ name o. (outcome_alike f s t a name o, outcome_alike f t s b name o);
      windows = λ q moment. (window_alike f s t a q moment, window_alike f t s b q moment);
      covers = λ i. (covers_alike f s t a i, covers_alike f t s b i);
      live = λ moment list. (live_alike f s t a moment list, live_alike f t s b moment list);
      files = λ base host text. (file_alike f s t a base host text, file_alike f t s b base host text);
      files_after = λ base host moment text.
          (file_after_alike f s t a base host moment text, file_after_alike f t s b base host moment text);
    }

pub order_free : (f : RosterFields Cmnd) (s t : List Message) → SameMessages s t → GrantTheSame f s t
order_free f s t same = grant_the_same f s t (alike_sets f s t same)

-- ---- one verdict more

module _ (f : RosterFields Cmnd) (set : List Message) (v : VerdictFields) where
  abbrev longer : List Message
  longer = set ++ Verdict v ∷ []

  requests_stay : (q : RequestFields) → (Contains set (Request q) → Contains longer (Request q)) × (Contains longer (Request q) → Contains set (Request q))
  requests_stay q = (Contains-append_left set (Verdict v ∷ []) (Request q), asked_before set v q)

  pub uncounted : NeverCounts f set v → GrantTheSame f set longer
  uncounted never =
      grant_the_same f set longer
      (alike_from_given f set longer requests_stay (λ q asked kind w. (given_after f set v w q kind, given_before f set v w q kind never asked)))

  pub own : v.kind ≢ Revoke → v.by ≡ v.of → GrantTheSame f set longer
  own other same = uncounted (λ q c asked about is. own_verdict f c v other same)

  pub conflicting : v.kind ≢ Revoke → HoldsConflicting f set v → GrantTheSame f set longer
  conflicting other holds =
      uncounted (λ q c asked about is. let duty = holds q c asked about is in conflicting_duty f c v duty.0 other duty.1 duty.2)

  pub unlawful : v.kind ≡ Revoke → MayNotRevoke f set v → GrantTheSame f set longer
  unlawful kind lacks =
      uncounted (λ q c asked about is. subst (λ (k : VerdictKind). may_give f c k v.by v.of v.at ≡ false) (sym kind) (lacks q c asked about is))

  -- ---- a refusal

  one_verdict : (w : VerdictFields) → ◌≡◌ {A = Message} (Verdict v) (Verdict w) → v ≡ w
  one_verdict w e = cc

  -- the longer set gives no further verdict of a kind other than this verdict's
  given_of : (q : RequestFields) (kind : VerdictKind) (w : VerdictFields) → v.kind ≢ kind → IsGiven f longer q kind w → IsGiven f set q kind w
  given_of q kind w other g = record {
    given = elim (Contains-push_cases set (Verdict v) (Verdict w) g.given) as (λ _. Contains set (Verdict w)) [
      | inl old ↦ old
      | inr new ↦ absurd (other (ap (λ (x : VerdictFields). x.kind) (one_verdict w new) ∙ g.kind_is))
    ];
    about = g.about;
    kind_is = g.kind_is;
    ceiling = g.ceiling;
    ceiling_is = g.ceiling_is;
    counts_is = g.counts_is;
  }

  module _ (refusal : v.kind ≡ Refuse) where
    no_approval : v.kind ≢ Approve
    no_approval e = let wrong : ◌≡◌ {A = VerdictKind} Refuse Approve = sym refusal ∙ e in absurd cc

    no_revocation : v.kind ≢ Revoke
    no_revocation e = let wrong : ◌≡◌ {A = VerdictKind} Refuse Revoke = sym refusal ∙ e in absurd cc

    approved_more : (q : RequestFields) (moment : ℕ) → ApprovedBy f set q moment → ApprovedBy f longer q moment
    approved_more q moment a = record {
      ceiling = a.ceiling;
      ceiling_is = a.ceiling_is;
      people = at_least_more a.ceiling.needs (HasGiven f set q Approve moment) (HasGiven f longer q Approve moment)
          (λ person h. record { verdict = h.verdict; given = given_after f set v h.verdict q Approve h.given; by_is = h.by_is; by_then = h.by_then }) a.people;
    }

    approved_less : (q : RequestFields) (moment : ℕ) → ApprovedBy f longer q moment → ApprovedBy f set q moment
    approved_less q moment a = record {
      ceiling = a.ceiling;
      ceiling_is = a.ceiling_is;
      people = at_least_more a.ceiling.needs (HasGiven f longer q Approve moment) (HasGiven f set q Approve moment)
          (λ person h. record { verdict = h.verdict; given = given_of q Approve h.verdict no_approval h.given; by_is = h.by_is; by_then = h.by_then }) a.people;
    }

    complete_more : (q : RequestFields) (moment : ℕ) → IsComplete f set q moment → IsComplete f longer q moment
    complete_more q moment is = record { approved = approved_more q moment is.approved; least = λ other a. is.least other (approved_less q other a) }

    complete_less : (q : RequestFields) (moment : ℕ) → IsComplete f longer q moment → IsComplete f set q moment
    complete_less q moment is = record { approved = approved_less q moment is.approved; least = λ other a. is.least other (approved_more q other a) }

    module _ (q : RequestFields) (alone : StandsAlone set q) (about : IsAbout q v)
        (complete : ℕ) (is : IsComplete f set q complete) (late : complete < v.at) where
      refused_more : (p : RequestFields) → IsRefused f set p → IsRefused f longer p
      refused_more p r = record {
        verdict = r.verdict;
        given = given_after f set v r.verdict p Refuse r.given;
        in_time = λ moment done. r.in_time moment (complete_less p moment done);
      }

      -- the refusal itself comes too late for the one request that it is about
      too_late : (p : RequestFields) → Contains set (Request p) → (r : IsRefused f longer p) → v ≡ r.verdict → ⊥
      too_late p asked r same =
          let of_p : IsAbout p v = subst (IsAbout p) (sym same) r.given.about in
          let one : p ≡ q = alone.alone p asked (sym of_p.0 ∙ about.0, sym of_p.1 ∙ about.1) in
          let done : IsComplete f longer p complete = complete_more p complete (subst (λ (x : RequestFields). IsComplete f set x complete) (sym one) is) in
          let at : v.at ≤ complete = subst (λ (x : VerdictFields). x.at ≤ complete) (sym same) (r.in_time complete done) in
          omega (arith, late, at)

      refused_less : (p : RequestFields) → Contains set (Request p) → IsRefused f longer p → IsRefused f set p
      refused_less p asked r = record {
        verdict = r.verdict;
        given = record {
          given = elim (Contains-push_cases set (Verdict v) (Verdict r.verdict) r.given.given) as (λ _. Contains set (Verdict r.verdict)) [
            | inl old ↦ old
            | inr new ↦ absurd (too_late p asked r (one_verdict r.verdict new))
          ];
          about = r.given.about;
          kind_is = r.given.kind_is;
          ceiling = r.given.ceiling;
          ceiling_is = r.given.ceiling_is;
          counts_is = r.given.counts_is;
        };
        in_time = λ moment done. r.in_time moment (complete_more p moment done);
      }

      revoked_more : (p : RequestFields) (moment : ℕ) → RevokedBy f set p moment → RevokedBy f longer p moment
      revoked_more p moment r = record { verdict = r.verdict; given = given_after f set v r.verdict p Revoke r.given; by_then = r.by_then }

      revoked_less : (p : RequestFields) (moment : ℕ) → RevokedBy f longer p moment → RevokedBy f set p moment
      revoked_less p moment r = record { verdict = r.verdict; given = given_of p Revoke r.verdict no_revocation r.given; by_then = r.by_then }

      pub late_refusal : GrantTheSame f set longer
      late_refusal =
          grant_the_same f set longer (record {
            requests = requests_stay;
            complete = λ p asked moment. (complete_more p moment, complete_less p moment);
            refused = λ p asked. (refused_more p, refused_less p asked);
            revoked = λ p asked moment. (revoked_more p moment, revoked_less p moment);
          })

-- ---- a refusal in time, and a revocation

pub refused_status : (f : RosterFields Cmnd) (set : List Message) (q : RequestFields) (v : VerdictFields) → StandsAlone set q → AdmitsRequest f q
    → IsGiven f set q Refuse v → ((complete : ℕ) → IsComplete f set q complete → v.at ≤ complete) → IsStatus f set (name_of q) Refused
refused_status f set q v alone admits given in_time =
    record { request = q; named = (refl, refl); alone = alone; admissible = admits; is = record { verdict = v; given = given; in_time = in_time } }

pub refused_window : (f : RosterFields Cmnd) (set : List Message) (q : RequestFields) (v : VerdictFields) (moment : ℕ)
    → IsGiven f set q Refuse v → ((complete : ℕ) → IsComplete f set q complete → v.at ≤ complete) → ¬ InWindow f set q moment
refused_window f set q v moment given in_time w = w.unrefused (record { verdict = v; given = given; in_time = in_time })

pub revoked_before : (f : RosterFields Cmnd) (set : List Message) (q : RequestFields) (v : VerdictFields) (moment : ℕ)
    → IsGiven f set q Revoke v → InWindow f set q moment → moment < v.at
revoked_before f set q v moment given w =
    elim (cases_Bool (nat_le v.at moment)) as (λ _. moment < v.at) [
      | inl le ↦ absurd (w.unrevoked (record { verdict = v; given = given; by_then = leb-true v.at moment le }))
      | inr gt ↦ leb-false v.at moment gt
    ]

-- ---- disputed names

pub disputed_status : (f : RosterFields Cmnd) (set : List Message) (p q : RequestFields) → Contains set (Request p)
    → Contains set (Request q) → SameName p q → p ≢ q → IsStatus f set (name_of p) Disputed
disputed_status f set p q asks also name differ = record {
  first = p;
  second = q;
  first_asked = asks;
  second_asked = also;
  first_named = (refl, refl);
  second_named = (sym name.0, sym name.1);
  differ = differ;
}

pub disputed_windows : (f : RosterFields Cmnd) (set : List Message) (p q : RequestFields) (moment : ℕ) → Contains set (Request p)
    → Contains set (Request q) → SameName p q → p ≢ q → (¬ InWindow f set p moment) × (¬ InWindow f set q moment)
disputed_windows f set p q moment asks also name differ =
    (λ w. differ (sym (w.alone.alone q also (sym name.0, sym name.1))), λ w. differ (w.alone.alone p asks name))

-- ---- parked

pub stays_parked : (set : List Message) (v : VerdictFields) (texts : List (List ℕ)) → Contains set (Verdict v)
    → NobodyAsks set (name_meant v) → AreParked set texts → Contains texts (wire (Verdict v))
stays_parked set v texts given nobody are = are.all v (record { given = given; waits = nobody })

same_verdict : (v w : VerdictFields) → ◌≡◌ {A = Message} (Verdict v) (Verdict w) → v ≡ w
same_verdict v w e = cc

pub leaves_parked : (set : List Message) (q : RequestFields) (v : VerdictFields) (texts : List (List ℕ)) → ((m : Message) → Contains set m → IsMessage m)
    → Contains set (Verdict v) → IsAbout q v → AreParked (set ++ Request q ∷ []) texts → ¬ Contains texts (wire (Verdict v))
leaves_parked set q v texts known given about are among =
    let found = are.each (wire (Verdict v)) among in
    let before : Contains set (Verdict found.0) = elim (Contains-push_cases set (Request q) (Verdict found.0) found.1.given)
    as (λ _. Contains set (Verdict found.0)) [ inl old ↦ old | inr new ↦ absurd cc ] in
    let same : v ≡ found.0 =
    same_verdict v found.0 (one_message (Verdict v) (Verdict found.0) (known (Verdict v) given) (known (Verdict found.0) before) found.2) in
    let of_found : IsAbout q found.0 = subst (IsAbout q) same about in
    found.1.waits q (Contains-push set (Request q)) (sym of_found.0, sym of_found.1)
