-- The number of a request, read from its text.
use Rattle.std.proofs.Common.{◌≡◌, ◌≤◌, ◌<◌, ℕ, List, [], ◌∷◌, true, length, arith, sym, ap, ◌∙◌, Some, None, Option, cond, refl, decimal, codes}
use Rattle.std.specs.List.{list_all}
use Rattle.std.specs.Char.{is_ascii_digit}
use Rattle.std.specs.Str.Parse.{AllDigits, digits_value}
use Rattle.std.proofs.lemmas.Bool.{and_from, lt-ltb, le-leb, cond-true}
use Rattle.std.proofs.lemmas.Bool.Decides.{nat_tests}
use Rattle.std.proofs.lemmas.Fmt.{decimal_digit, decimal_is_IsNumeral, length-decimal-le}
use Rattle.sudo_words.specs.Decimal.{is_decimal}
use Rattle.relay_http.specs.RequestBytes.{IsNumber}

digits : (ds : List ℕ) → AllDigits 10 ds → list_all is_ascii_digit ds ≡ true
digits [] all = refl
digits (d ∷ ds) all = and_from _ _ (grind (arith, nat_tests, all.0)) (digits ds all.1)

-- the digits of a number of a request are a decimal
pub decimal_numbers : (n : ℕ) → n ≤ 999_999_999 → is_decimal (decimal n) ≡ true
decimal_numbers n small =
    let numeral = decimal_is_IsNumeral n (omega (arith, small)) in
    let short : length (decimal n) ≤ 9 = length-decimal-le 9 n (omega arith) (omega (arith, small)) (omega (arith, small)) in
    and_from _ _ (lt-ltb _ _ numeral.0.0) (and_from _ _ (le-leb _ _ short) (digits (decimal n) numeral.0.1))

-- and it is read as that number
pub read_number : (text : List ℕ) (n : ℕ) → IsNumber text n → (o : Option ℕ) → o ≡ cond (is_decimal text) (Some (digits_value 10 text)) None → o ≡ Some n
read_number text n is o e =
    let tested : is_decimal text ≡ true = ap is_decimal is.1 ∙ decimal_numbers n is.0 in
    let value : digits_value 10 text ≡ n = ap (digits_value 10) is.1 ∙ (decimal_is_IsNumeral n (omega (arith, is.0))).1 in
    e ∙ cond-true (is_decimal text) (Some (digits_value 10 text)) None tested ∙ ap Some value

-- ---- worked texts

pub seven_written : IsNumber (codes "7") 7
seven_written = (omega arith, sym (decimal_digit 7 (omega arith)))

pub no_zero_before : (n : ℕ) → IsNumber (codes "07") n → ⊥
no_zero_before n is =
    let value : 7 ≡ n = ap (digits_value 10) is.1 ∙ (decimal_is_IsNumeral n (omega (arith, is.0))).1 in
    let wrong : codes "07" ≡ codes "7" = is.1 ∙ ap decimal (sym value) ∙ decimal_digit 7 (omega arith) in
    absurd cc
