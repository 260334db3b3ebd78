use Rattle.std.proofs.Common.{◌≡◌, ℕ, suc, zero, ◌+◌, ◌*◌, ◌^◌, ◌<◌, ◌≤◌, true, false, cond, List, length, get_or, Some, None, sym, ap, ◌∙◌, arith, add-one}
use Rattle.std.specs.List.{list_all}
use Rattle.std.specs.Char.{is_ascii_digit, digit_value}
use Rattle.std.specs.Str.Parse.{digits_value}
use Rattle.std.proofs.Math.Nat.{pow-suc}
use Rattle.std.proofs.lemmas.List.{take_all}
use Rattle.std.proofs.lemmas.List.Folds.{list_all_more, list_all_at}
use Rattle.std.proofs.lemmas.Bool.{and_right, and_from, lt-ltb, cond-true, cond-false}
use Rattle.std.proofs.lemmas.Bool.Decides.{nat_tests}
use Rattle.std.proofs.lemmas.Int.Digits.{digits_value_more}
use Rattle.sudo_words.specs.Decimal.{is_decimal}
use Rattle.sudo_words.proofs.decimal.decimal_of.Goals as goal

small : (i : ℕ) → i < 9 → 10 ^ i ≤ 100000000
small zero h = omega arith
small (suc zero) h = omega arith
small (suc (suc zero)) h = omega arith
small (suc (suc (suc zero))) h = omega arith
small (suc (suc (suc (suc zero)))) h = omega arith
small (suc (suc (suc (suc (suc zero))))) h = omega arith
small (suc (suc (suc (suc (suc (suc zero)))))) h = omega arith
small (suc (suc (suc (suc (suc (suc (suc zero))))))) h = omega arith
small (suc (suc (suc (suc (suc (suc (suc (suc zero)))))))) h = omega arith
small (suc (suc (suc (suc (suc (suc (suc (suc (suc i))))))))) h = absurd (omega arith)

pow_next : (i : ℕ) → 10 ^ (i + 1) ≡ 10 ^ i * 10
pow_next i = ap (λ k. 10 ^ k) (add-one i) ∙ pow-suc 10 i

no_number : (ds : List ℕ) → is_decimal ds ≡ false → None ≡ cond (is_decimal ds) (Some (digits_value 10 ds)) None
no_number ds e = sym (cond-false _ _ _ e)

pub overflow_mul-n : goal.overflow_mul-n
overflow_mul-n c = omega (arith, c.loop-b.invariant.small, small c.loop-b.b-index (omega arith))

pub overflow_add-n : goal.overflow_add-n
overflow_add-n c = omega (arith, c.loop-b.invariant.small, small c.loop-b.b-index (omega arith))

pub returns-then-not-is_ascii_digit : goal.returns-then-not-is_ascii_digit
returns-then-not-is_ascii_digit c =
    no_number c.args.value.now (and_right _ _
    (and_right _ _ (list_all_at is_ascii_digit c.args.value.now c.loop-b.b-index 0 c.loop-b-test.true (sym c.if-not-is_ascii_digit.ensures.value))))

pub loop-b-preserved : goal.loop-b-preserved
loop-b-preserved c =
    let digit : digit_value (get_or c.args.value.now c.loop-b.b-index 0) ≡ c.from.result = grind (arith, nat_tests) in
    let is_digit : is_ascii_digit (get_or c.args.value.now c.loop-b.b-index 0) ≡ true = sym c.if-not-is_ascii_digit.ensures.value in
    let top : get_or c.args.value.now c.loop-b.b-index 0 ≤ 57 = grind (arith, nat_tests) in record {
      value = omega (arith, digits_value_more 10 c.args.value.now _ c.loop-b-test.true, c.loop-b.invariant.value);
      digits = list_all_more is_ascii_digit c.args.value.now _ 0 c.loop-b-test.true ∙ and_from _ _ c.loop-b.invariant.digits is_digit;
      small = omega (arith, c.loop-b.invariant.small, pow_next c.loop-b.b-index);
    }

pub returns : goal.returns
returns c =
    let ds = c.args.value.now in
    let all = take_all c.loop-b.b-index ds c.loop-b-test.false in
    let value : c.loop-b.n ≡ digits_value 10 ds = c.loop-b.invariant.value ∙ ap (digits_value 10) all in
    let digits : list_all is_ascii_digit ds ≡ true = sym (ap (list_all is_ascii_digit) all) ∙ c.loop-b.invariant.digits in
    let some : 0 < length ds = grind (arith, nat_tests) in
    let number : is_decimal ds ≡ true = and_from _ _ (lt-ltb _ _ some) (and_from _ _ (grind (arith, nat_tests)) digits) in
    ap Some value ∙ sym (cond-true _ _ _ number)
