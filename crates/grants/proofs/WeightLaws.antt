-- When a verdict weighs what.
use Rattle.std.proofs.Common.{◌≡◌, ◌≢◌, ◌↔◌, ℕ, Bool, true, false, ◌&&◌, ◌||◌, not, if◌then◌else◌, List, refl}
use Rattle.std.specs.Str.{bytes_eq}
use Rattle.std.proofs.lemmas.Bool.{both_ways, false_from_ne_true}
use Rattle.std.proofs.lemmas.Slice.Eq.{bytes_eq-Decides}
use Rattle.sudo_words.specs.declared.cmnd.Cmnd.{Cmnd}
use Rattle.messages.specs.Fields.{VerdictFields}
use Rattle.messages.specs.declared.kind.VerdictKind.{VerdictKind}
use Rattle.messages.specs.declared.kind.VerdictKind.TheVariants.{Approve, Refuse, Revoke}
use Rattle.roster.specs.Fields.{CeilingFields, RosterFields}
use Rattle.roster.specs.Relations.{holds, holds_against}
use Rattle.grants.specs.Verdicts.{counts, may_give}
use Rattle.grants.specs.Weights.{weighed, weight_of}
use Rattle.grants.specs.declared.weighing.Weight.{Weight}
use Rattle.grants.specs.declared.weighing.Weight.TheVariants.{Counts, Asker, Duty, Conflict}

-- ---- by the three tests: it is the asker's, its author holds the duty, and one against it

abbrev answer_by : (own held against : Bool) → Weight
answer_by own held against = if own then Asker else if not held then Duty else if against then Conflict else Counts

abbrev revocation_by : (own held : Bool) → Weight
revocation_by own held = if (own || held) then Counts else Duty

answer_counts : (o h a : Bool) → (answer_by o h a ≡ Counts) ↔ ((not o && h && not a) ≡ true)
answer_counts true h a = (λ e. absurd cc, λ e. absurd cc)
answer_counts false false a = (λ e. absurd cc, λ e. absurd cc)
answer_counts false true true = (λ e. absurd cc, λ e. absurd cc)
answer_counts false true false = (λ e. refl, λ e. refl)

answer_own : (o h a : Bool) → (answer_by o h a ≡ Asker) ↔ (o ≡ true)
answer_own true h a = (λ e. refl, λ e. refl)
answer_own false false a = (λ e. absurd cc, λ e. absurd cc)
answer_own false true true = (λ e. absurd cc, λ e. absurd cc)
answer_own false true false = (λ e. absurd cc, λ e. absurd cc)

answer_lacks : (o h a : Bool) → (answer_by o h a ≡ Duty) ↔ ((o ≡ false) × (h ≡ false))
answer_lacks true h a = (λ e. absurd cc, λ e. absurd (both_ways true e.0 refl))
answer_lacks false false a = (λ e. (refl, refl), λ e. refl)
answer_lacks false true true = (λ e. absurd cc, λ e. absurd (both_ways true e.1 refl))
answer_lacks false true false = (λ e. absurd cc, λ e. absurd (both_ways true e.1 refl))

answer_against : (o h a : Bool) → (answer_by o h a ≡ Conflict) ↔ ((o ≡ false) × (h ≡ true) × (a ≡ true))
answer_against true h a = (λ e. absurd cc, λ e. absurd (both_ways true e.0 refl))
answer_against false false a = (λ e. absurd cc, λ e. absurd (both_ways false refl e.1))
answer_against false true true = (λ e. (refl, refl, refl), λ e. refl)
answer_against false true false = (λ e. absurd cc, λ e. absurd (both_ways false refl e.2))

revocation_counts : (o h : Bool) → (revocation_by o h ≡ Counts) ↔ ((o || h) ≡ true)
revocation_counts true h = (λ e. refl, λ e. refl)
revocation_counts false true = (λ e. refl, λ e. refl)
revocation_counts false false = (λ e. absurd cc, λ e. absurd cc)

revocation_lacks : (o h : Bool) → (revocation_by o h ≡ Duty) ↔ ((o ≡ false) × (h ≡ false))
revocation_lacks true h = (λ e. absurd cc, λ e. absurd (both_ways true e.0 refl))
revocation_lacks false true = (λ e. absurd cc, λ e. absurd (both_ways true e.1 refl))
revocation_lacks false false = (λ e. (refl, refl), λ e. refl)

never_own : (o h : Bool) → revocation_by o h ≡ Asker → ⊥
never_own true h e = absurd cc
never_own false true e = absurd cc
never_own false false e = absurd cc

never_against : (o h : Bool) → revocation_by o h ≡ Conflict → ⊥
never_against true h e = absurd cc
never_against false true e = absurd cc
never_against false false e = absurd cc

-- ---- of a kind

is_own : (person asker : List ℕ) → (bytes_eq person asker ≡ true) ↔ (person ≡ asker)
is_own person asker = bytes_eq-Decides person asker

is_another : (person asker : List ℕ) → (bytes_eq person asker ≡ false) ↔ (person ≢ asker)
is_another person asker = (
  λ e same. both_ways _ e ((bytes_eq-Decides person asker).1 same),
  λ other. false_from_ne_true _ (λ e. other ((bytes_eq-Decides person asker).0 e)),
)

module _ (f : RosterFields Cmnd) (c : CeilingFields Cmnd) (person asker : List ℕ) (at : ℕ) where
  answer_asker : (answer_by (bytes_eq person asker) (holds f person c.approve at) (holds_against f person c.approve at) ≡ Asker) ↔ (person ≡ asker)
  answer_asker =
      let t = answer_own (bytes_eq person asker) (holds f person c.approve at) (holds_against f person c.approve at) in
      (λ e. (is_own person asker).0 (t.0 e), λ same. t.1 ((is_own person asker).1 same))

  answer_duty : (answer_by (bytes_eq person asker) (holds f person c.approve at) (holds_against f person c.approve at) ≡ Duty)
      ↔ ((person ≢ asker) × (holds f person c.approve at ≡ false))
  answer_duty =
      let t = answer_lacks (bytes_eq person asker) (holds f person c.approve at) (holds_against f person c.approve at) in
      (λ e. ((is_another person asker).0 (t.0 e).0, (t.0 e).1), λ p. t.1 ((is_another person asker).1 p.0, p.1))

  answer_conflict : (answer_by (bytes_eq person asker) (holds f person c.approve at) (holds_against f person c.approve at) ≡ Conflict)
      ↔ ((person ≢ asker) × (holds f person c.approve at ≡ true) × (holds_against f person c.approve at ≡ true))
  answer_conflict =
      let t = answer_against (bytes_eq person asker) (holds f person c.approve at) (holds_against f person c.approve at) in
      (λ e. ((is_another person asker).0 (t.0 e).0, (t.0 e).1, (t.0 e).2), λ p. t.1 ((is_another person asker).1 p.0, p.1, p.2))

  revocation_duty : (revocation_by (bytes_eq person asker) (holds f person c.approve at) ≡ Duty) ↔ ((person ≢ asker) × (holds f person c.approve at ≡ false))
  revocation_duty =
      let t = revocation_lacks (bytes_eq person asker) (holds f person c.approve at) in
      (λ e. ((is_another person asker).0 (t.0 e).0, (t.0 e).1), λ p. t.1 ((is_another person asker).1 p.0, p.1))

  of_counting : (kind : VerdictKind) → (weight_of f c kind person asker at ≡ Counts) ↔ (may_give f c kind person asker at ≡ true)
  of_counting Approve = answer_counts (bytes_eq person asker) (holds f person c.approve at) (holds_against f person c.approve at)
  of_counting Refuse = answer_counts (bytes_eq person asker) (holds f person c.approve at) (holds_against f person c.approve at)
  of_counting Revoke = revocation_counts (bytes_eq person asker) (holds f person c.approve at)

  of_asker : (kind : VerdictKind) → (weight_of f c kind person asker at ≡ Asker) ↔ ((kind ≢ Revoke) × (person ≡ asker))
  of_asker Approve = (λ e. ((λ k. absurd cc), answer_asker.0 e), λ p. answer_asker.1 p.1)
  of_asker Refuse = (λ e. ((λ k. absurd cc), answer_asker.0 e), λ p. answer_asker.1 p.1)
  of_asker Revoke = (λ e. absurd (never_own (bytes_eq person asker) (holds f person c.approve at) e), λ p. absurd (p.0 refl))

  of_duty : (kind : VerdictKind) → (weight_of f c kind person asker at ≡ Duty) ↔ ((person ≢ asker) × (holds f person c.approve at ≡ false))
  of_duty Approve = answer_duty
  of_duty Refuse = answer_duty
  of_duty Revoke = revocation_duty

  of_conflict : (kind : VerdictKind) → (weight_of f c kind person asker at ≡ Conflict)
      ↔ ((kind ≢ Revoke) × (person ≢ asker) × (holds f person c.approve at ≡ true) × (holds_against f person c.approve at ≡ true))
  of_conflict Approve = (λ e. let p = answer_conflict.0 e in ((λ k. absurd cc), p.0, p.1, p.2), λ p. answer_conflict.1 (p.1, p.2, p.3))
  of_conflict Refuse = (λ e. let p = answer_conflict.0 e in ((λ k. absurd cc), p.0, p.1, p.2), λ p. answer_conflict.1 (p.1, p.2, p.3))
  of_conflict Revoke = (λ e. absurd (never_against (bytes_eq person asker) (holds f person c.approve at) e), λ p. absurd (p.0 refl))

-- ---- of a verdict

pub weighs_counts : (f : RosterFields Cmnd) (c : CeilingFields Cmnd) (v : VerdictFields) → (weighed f c v ≡ Counts) ↔ (counts f c v ≡ true)
weighs_counts f c v = of_counting f c v.by v.of v.at v.kind

pub weighs_asker : (f : RosterFields Cmnd) (c : CeilingFields Cmnd) (v : VerdictFields) → (weighed f c v ≡ Asker) ↔ ((v.kind ≢ Revoke) × (v.by ≡ v.of))
weighs_asker f c v = of_asker f c v.by v.of v.at v.kind

pub weighs_duty : (f : RosterFields Cmnd) (c : CeilingFields Cmnd) (v : VerdictFields)
    → (weighed f c v ≡ Duty) ↔ ((v.by ≢ v.of) × (holds f v.by c.approve v.at ≡ false))
weighs_duty f c v = of_duty f c v.by v.of v.at v.kind

pub weighs_conflict : (f : RosterFields Cmnd) (c : CeilingFields Cmnd) (v : VerdictFields)
    → (weighed f c v ≡ Conflict) ↔ ((v.kind ≢ Revoke) × (v.by ≢ v.of) × (holds f v.by c.approve v.at ≡ true)
    × (holds_against f v.by c.approve v.at ≡ true))
weighs_conflict f c v = of_conflict f c v.by v.of v.at v.kind
