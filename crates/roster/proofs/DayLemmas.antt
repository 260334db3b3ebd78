-- The day that a text spells is the one whose date it is.
use Rattle.std.proofs.Common.{◌≡◌, ◌<◌, ◌≤◌, ◌+◌, ℕ, zero, suc, pos, ◌∙◌, List, true, sym, subst, arith, inl, inr}
use Rattle.std.specs.Str.{bytes_eq}
use Rattle.std.proofs.lemmas.Bool.{cases_Bool, cases_lt, cond-true, cond-false, true≢false}
use Rattle.std.proofs.lemmas.Slice.Eq.{bytes_eq-Decides}
use Rattle.sudo_words.specs.Moment.{date_text, IsDateText, IsDay}
use Rattle.sudo_words.proofs.MomentLemmas.{date_text_is, date_text_only}
use Rattle.sudo_words.proofs.MomentTexts.{one_day}
use Rattle.roster.specs.Document.{day_from, day_spelled}

-- the day that is found is not later than the day after them
within : (later day : ℕ) (text : List ℕ) → day_from later day text ≤ day + later
unfolding day_from
within zero day text = omega arith
within (suc later) day text = elim (cases_Bool (bytes_eq (date_text day) text)) [
  | inl here ↦ rw (cond-true _ day (day_from later (day + 1) text) here) (omega arith)
  | inr other ↦ rw (cond-false _ day (day_from later (day + 1) text) other) (omega (arith, within later (day + 1) text))
]

-- the text is the date of one of them
has_date : (later day : ℕ) (text : List ℕ) → day_from later day text < day + later → bytes_eq (date_text (day_from later day text)) text ≡ true
unfolding day_from
has_date zero day text l = absurd (omega arith)
has_date (suc later) day text l = elim (cases_Bool (bytes_eq (date_text day) text)) [
  | inl here ↦ subst (λ (x : ℕ). bytes_eq (date_text x) text ≡ true) (sym (cond-true _ day (day_from later (day + 1) text) here)) here
  | inr other ↦
      let same = cond-false _ day (day_from later (day + 1) text) other in
      subst (λ (x : ℕ). bytes_eq (date_text x) text ≡ true) (sym same) (has_date later (day + 1) text (omega (arith, l, same)))
]

-- if the text is the date of one of them, one is found
is_found : (later day d : ℕ) (text : List ℕ) → day ≤ d → d < day + later → bytes_eq (date_text d) text ≡ true → day_from later day text < day + later
unfolding day_from
is_found zero day d text low high e = absurd (omega arith)
is_found (suc later) day d text low high e = elim (cases_Bool (bytes_eq (date_text day) text)) [
  | inl here ↦ rw (cond-true _ day (day_from later (day + 1) text) here) (omega arith)
  | inr other ↦
      let behind : day < d = elim (cases_lt day d) [
        | inl below ↦ below
        | inr above ↦
            let same : d ≡ day = omega (arith, above, low) in
            absurd (true≢false (sym (subst (λ x. bytes_eq (date_text x) text ≡ true) same e) ∙ other))
      ] in
      rw (cond-false _ day (day_from later (day + 1) text) other)
      (omega (arith, is_found later (day + 1) d text (omega (arith, behind)) (omega (arith, high)) e))
]

pub spelled_is_day : (text : List ℕ) → IsDay (day_spelled text) → IsDateText text (pos (day_spelled text))
unfolding day_spelled
spelled_is_day text in_days =
    let found = day_from 47_482 0 text in
    let same : date_text found ≡ text = (bytes_eq-Decides (date_text found) text).0 (has_date 47_482 0 text (omega (arith, in_days))) in
    subst (λ (x : List ℕ). IsDateText x (pos found)) same (date_text_is found in_days)

pub day_is_spelled : (text : List ℕ) (day : ℕ) → IsDay day → IsDateText text (pos day) → day_spelled text ≡ day
unfolding day_spelled
day_is_spelled text day in_days is =
    let same : date_text day ≡ text = sym (date_text_only text day in_days is) in
    let l = is_found 47_482 0 day text (omega arith) (omega (arith, in_days)) ((bytes_eq-Decides (date_text day) text).1 same) in
    let number : pos (day_spelled text) ≡ pos day = one_day text (pos (day_spelled text)) (pos day) (spelled_is_day text (omega (arith, l))) is in
    cc

pub none_spelled : (text : List ℕ) → ((day : ℕ) → IsDay day → ¬ IsDateText text (pos day)) → day_spelled text ≡ 47_482
unfolding day_spelled
none_spelled text none =
    let most = within 47_482 0 text in
    let not_below : ¬ (day_from 47_482 0 text < 47_482) = λ l. none (day_spelled text) (omega (arith, l)) (spelled_is_day text (omega (arith, l))) in
    omega (arith, most, not_below)
