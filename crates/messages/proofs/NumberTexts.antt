-- The number that a value of JSON is.
use Rattle.std.proofs.Common.{◌≡◌, ◌^◌, ◌<◌, ℕ, List, Option, Some, None, Result, Ok, Err, decimal, arith, refl}
use Rattle.std.specs.Prelude.{MatchOption, ok_or}
use Rattle.std.specs.Str.Parse.{ParsesUnsigned}
use Rattle.std.proofs.lemmas.Fmt.{parse-decimal}
use Rattle.json.specs.Find.{as_number}
use Rattle.json.specs.Json.{Json, number}
use Rattle.messages.specs.Fields.{IsNumbered}

-- decimal digits are read as the number
parsed : (o : Option ℕ) (n : ℕ) → n < 2 ^ 64 → ParsesUnsigned 64 10 (decimal n) (ok_or o (decimal n)) → o ≡ Some n
parsed (Some x) n fits parses = let is : ◌≡◌ {A = Result ℕ (List ℕ)} (Ok x) (Ok n) = parse-decimal 64 n (decimal n) (Ok x) fits fits refl parses in cc
parsed None n fits parses =
    let is : ◌≡◌ {A = Result ℕ (List ℕ)} (Err (decimal n)) (Ok n) = parse-decimal 64 n (decimal n) (Err (decimal n)) fits fits refl parses in
    absurd cc

pub number_read : (j : Json) (o : Option ℕ) (n : ℕ) → IsNumbered n → j ≡ number (decimal n)
    → MatchOption (as_number j) (o ≡ None) (λ s. ParsesUnsigned 64 10 s (ok_or o s)) → o ≡ Some n
number_read j o n small is read =
    let here : ParsesUnsigned 64 10 (decimal n) (ok_or o (decimal n)) = rw is at read in
    parsed o n (omega arith) here
