use Rattle.std.proofs.Common.{◌≡◌, ℕ, ◌+◌, ◌*◌, ◌/◌, ◌%◌, ◌<◌, ◌++◌, List, [], ◌∷◌, Option, Some, None, length, get_or, arith, ℤ, pos}
use Rattle.std.specs.Option.{IfSome}
use Rattle.std.proofs.lemmas.Slice.Eq.{HasBytesAt, text_from_reads}
use Rattle.jiff_core.specs.Calendar.{IsCivilDate, days_from_civil}
use Rattle.sudo_words.specs.Moment.{IsDateText, four, two}
use Rattle.sudo_words.proofs.parts.date.Goals as goal

-- eight bytes that are two digits each spell a year, a month and a day
digits_are : (text : List ℕ) (a b m d : ℕ) → length text ≡ 8 → a < 100 → b < 100
    → get_or text 0 0 ∷ get_or text 1 0 ∷ [] ≡ two a → get_or text 2 0 ∷ get_or text 3 0 ∷ [] ≡ two b
    → get_or text 4 0 ∷ get_or text 5 0 ∷ [] ≡ two m → get_or text 6 0 ∷ get_or text 7 0 ∷ [] ≡ two d
    → text ≡ four (a * 100 + b) ++ two m ++ two d
digits_are text a b m d len below low e f g h =
    let high_is : (a * 100 + b) / 100 ≡ a = omega arith in
    let low_is : (a * 100 + b) % 100 ≡ b = omega arith in
    let reads : HasBytesAt text 0 (two a ++ two b ++ two m ++ two d) = (cc, (cc, (cc, (cc, (cc, (cc, (cc, (cc, tt)))))))) in
    let text_is : text ≡ two a ++ two b ++ two m ++ two d = text_from_reads text (two a ++ two b ++ two m ++ two d) len reads in
    rw (high_is, low_is) text_is

-- the day number that was found for the numbers is that of the text
date_found : (result : Option ℤ) (text : List ℕ) (y m d : ℕ) → text ≡ four y ++ two m ++ two d
    → IfSome result (λ n. IsCivilDate (pos y) m d × (days_from_civil (pos y) m d ≡ n)) → IfSome result (λ n. IsDateText text n)
date_found None text y m d e h = tt
date_found (Some n) text y m d e h = record { year = y; month = m; day_of_month = d; date = h.0; number = h.1; text_is = e }

pub returns-in_ok-pair-in-len8-4-clause-found : goal.returns-in_ok-pair-in-len8-4-clause-found
returns-in_ok-pair-in-len8-4-clause-found c =
    let a = c.in_ok-pair-in-len8.ensures.found in
    let b = c.in_ok-pair-in-len8-2.ensures.found in
    let m = c.in_ok-pair-in-len8-3.ensures.found in
    let d = c.in_ok-pair-in-len8-4.ensures.found in
    let len : length c.args.text.now ≡ 8 = omega arith in
    let digits = digits_are c.args.text.now _ _ _ _ len a.0 b.0 a.1 b.1 m.1 d.1 in
    let year = c.from.result * 100 + c.from-in-len8.result in
    date_found c.day_number.result c.args.text.now year c.in_ok-pair-in-len8-3.field-0 c.in_ok-pair-in-len8-4.field-0
    (rw (c.from.ensures, c.from-in-len8.ensures) digits) c.day_number.ensures.found
