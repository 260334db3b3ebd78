-- The case of a moment: the greatest turn at or below it, or 0.
use Rattle.std.proofs.Common.{◌≡◌, ℕ, ◌+◌, ◌<◌, ◌≤◌, Bool, true, ◌&&◌, leb, eqb, if◌then◌else◌, max, Option}
use Rattle.std.proofs.Common.{Some, None, List, [], ◌∷◌, refl, sym, ap, subst, ◌∙◌, inl, inr, ◌⊎◌, arith}
use Rattle.std.specs.List.{AllByRecursion, list_any}
use Rattle.std.specs.Option.{option_to_list}
use Rattle.std.proofs.lemmas.Bool.{cases_Bool, cases_lt, or_left, or_right, leb-true, leb-false, le-leb, lt-leb, eq-eqb}
use Rattle.sudo_words.specs.Moment.{IsMoment}
use Rattle.sudo_policy.specs.declared.entry.Rule.{Rule}
use Rattle.sudo_decide.specs.Decision.{is_not_before, is_not_after, takes_part}
use Rattle.sudo_beyond.specs.Alike.{AlikeMoments}
use Rattle.sudo_beyond.specs.Cases.{moment_after, turns_of, turns}
use Rattle.sudo_beyond.proofs.OneCase.{IsMomentCase}
use Rattle.sudo_beyond.proofs.AlikeLemmas.{all_weaker, all_front, all_back, all_each}

-- ---- the greatest turn

greatest : List ℕ → ℕ → ℕ
greatest [] t = 0
greatest (p ∷ ps) t = if leb p t then max p (greatest ps t) else greatest ps t

-- it is at or below the moment, it is 0 or a turn, and each turn at or below the moment is at or below it
record Greatest (ps : List ℕ) (t g : ℕ) : Type 0 where
  low : g ≤ t
  stands : (g ≡ 0) ⊎ (list_any (λ p. eqb p g) ps ≡ true)
  alike : AllByRecursion (λ p. p ≤ t → p ≤ g) ps

is_greatest : (ps : List ℕ) (t : ℕ) → Greatest ps t (greatest ps t)
unfolding greatest
is_greatest [] t = record { low = omega arith; stands = inl refl; alike = tt }
is_greatest (p ∷ ps) t =
    let before = is_greatest ps t in
    let g : ℕ = greatest ps t in
    let Standing : ℕ → Type 0 = λ m. (m ≡ 0) ⊎ (list_any (λ q. eqb q m) (p ∷ ps) ≡ true) in
    elim (cases_Bool (leb p t)) [
      | inl under ↦
          rw under
          (record {
            low = omega (arith, leb-true p t under, before.low);
            stands =
                elim (cases_lt p g) [
                  | inl lower ↦
                      let e : g ≡ max p g = omega arith in
                      subst Standing e (elim before.stands [ inl none ↦ inl none | inr some ↦ inr (or_right (eqb p g) (list_any (λ q. eqb q g) ps) some) ])
                  | inr higher ↦
                      let e : p ≡ max p g = omega arith in
                      subst Standing e (inr (or_left (eqb p p) (list_any (λ q. eqb q p) ps) (eq-eqb p p refl)))
                ];
            alike = (λ h. omega arith, all_weaker (λ q. q ≤ t → q ≤ g) (λ q. q ≤ t → q ≤ max p g) ps (λ q keeps h. omega (arith, keeps h)) before.alike);
          })
      | inr above ↦
          rw above
          (record {
            low = before.low;
            stands = elim before.stands [ inl none ↦ inl none | inr some ↦ inr (or_right (eqb p g) (list_any (λ q. eqb q g) ps) some) ];
            alike = (λ h. absurd (omega (arith, leb-false p t above)), before.alike);
          })
    ]

-- ---- rules

-- a turn compares alike with the moment and with the greatest turn at or below it
same_leb : (p t g : ℕ) → g ≤ t → (p ≤ t → p ≤ g) → leb p t ≡ leb p g
same_leb p t g low keeps =
    elim (cases_Bool (leb p t)) [
      | inl under ↦ under ∙ sym (le-leb p g (keeps (leb-true p t under)))
      | inr above ↦ above ∙ sym (lt-leb p g (omega (arith, leb-false p t above)))
    ]

same_leb_behind : (l t g : ℕ) → g ≤ t → (l + 1 ≤ t → l + 1 ≤ g) → leb t l ≡ leb g l
same_leb_behind l t g low keeps =
    elim (cases_Bool (leb t l)) [
      | inl under ↦ under ∙ sym (le-leb g l (omega (arith, leb-true t l under)))
      | inr above ↦ above ∙ sym (lt-leb g l (let k : l + 1 ≤ g = keeps (omega (arith, leb-false t l above)) in omega arith))
    ]

begun_alike : (first : Option ℕ) (t g : ℕ) → g ≤ t → AllByRecursion (λ p. p ≤ t → p ≤ g) (option_to_list first) → is_not_before first t ≡ is_not_before first g
begun_alike None t g low keeps = refl
begun_alike (Some p) t g low keeps = same_leb p t g low keeps.0

lasts_alike : (last : Option ℕ) (t g : ℕ) → IsMoment t → g ≤ t
    → AllByRecursion (λ p. p ≤ t → p ≤ g) (moment_after last) → is_not_after last t ≡ is_not_after last g
lasts_alike None t g is low keeps = refl
lasts_alike (Some l) t g is low keeps =
    elim (cases_Bool (leb l 4_102_444_798)) [
      | inl some ↦
          let here = subst (λ (b : Bool). AllByRecursion (λ p. p ≤ t → p ≤ g) (if b then (l + 1) ∷ [] else [])) some keeps in
          same_leb_behind l t g low here.0
      | inr none ↦
          let late : 4_102_444_798 < l = leb-false l 4_102_444_798 none in
          le-leb t l (omega arith) ∙ sym (le-leb g l (omega arith))
    ]

rule_alike : (t g : ℕ) (r : Rule) → IsMoment t → g ≤ t → AllByRecursion (λ p. p ≤ t → p ≤ g) (turns_of r) → takes_part r t ≡ takes_part r g
rule_alike t g r is low keeps =
    let P : ℕ → Type 0 = λ p. p ≤ t → p ≤ g in
    let begun = begun_alike r.not_before t g low (all_front P (option_to_list r.not_before) (moment_after r.not_after) keeps) in
    let lasts = lasts_alike r.not_after t g is low (all_back P (option_to_list r.not_before) (moment_after r.not_after) keeps) in
    ap (λ (b : Bool). b && is_not_after r.not_after t) begun ∙ ap (λ (b : Bool). is_not_before r.not_before g && b) lasts

pub record MomentStands (rules : List Rule) (t : ℕ) : Type 0 where
  pub moment : ℕ
  pub is_case : IsMomentCase rules moment
  pub alike : AlikeMoments rules t moment

pub moment_stands : (rules : List Rule) (t : ℕ) → IsMoment t → MomentStands rules t
moment_stands rules t is =
    let g : ℕ = greatest (turns rules) t in
    let greatest_is = is_greatest (turns rules) t in
    record {
      moment = g;
      is_case = (omega (arith, greatest_is.low), greatest_is.stands);
      alike =
          all_weaker (λ r. AllByRecursion (λ p. p ≤ t → p ≤ g) (turns_of r)) (λ r. takes_part r t ≡ takes_part r g) rules
          (λ r. rule_alike t g r is greatest_is.low) (all_each (λ p. p ≤ t → p ≤ g) turns_of rules greatest_is.alike);
    }
