-- Literal texts, some canonical and some not.
use Rattle.std.proofs.Common.{◌≡◌, ℕ, ◌∙◌, Bool, true, false, List, Option, Some, None, option_map, refl, sym, ap, arith, get_or, ltb, if◌then◌else◌}
use Rattle.std.specs.List.{list_all}
use Rattle.std.specs.Prelude.{codes, IsUtf8, Float}
use Rattle.std.proofs.lemmas.Str.{IsUtf8-from_ascii}
use Rattle.json.specs.Lex.{lex, punctuate}
use Rattle.json.specs.Json.{items, members, value}
use Rattle.std.specs.Float.Numeral.{Parts, scan_numeral}
use Rattle.std.specs.Fmt.{digits}
use Rattle.std.specs.Char.{encode_utf8}
use Rattle.json.specs.Print.{escape_byte}
use Rattle.json.specs.Text.{content, code_unit}
use Rattle.json.specs.Word.{word, after_number}
use Rattle.serde_json.specs.Data.{Data, Num, float, null, boolean, number, unsigned, string, array, object, no_items, item, no_members, member}
use Rattle.serde_json.specs.Find.{is_float}
use Rattle.serde_json.specs.Read.{read, float_of, number_of}
use Rattle.serde_json.specs.Written.{compact_text, has_float}
use Rattle.messages.specs.Canonical.{IsCanonicalText}
use Rattle.messages.proofs.PlainTexts.{ascii_literal}

utf8 : (w : List ℕ) → list_all (λ b. ltb b 128) w ≡ true → IsUtf8 w
utf8 w h = IsUtf8-from_ascii w (ascii_literal w h)

pub empty_canonical : IsCanonicalText (codes "{}")
unfolding lex punctuate items members value
empty_canonical = (object no_members, record { utf8 = utf8 (codes "{}") refl; reads = refl; whole = refl; written = refl })

pub seven_canonical : IsCanonicalText (codes "7")
unfolding lex punctuate items members value number_of content word after_number scan_numeral escape_byte digits
seven_canonical = (number (unsigned 7), record { utf8 = utf8 (codes "7") refl; reads = refl; whole = refl; written = refl })

two_members : Data
two_members = object (member (codes "a") (array (item (boolean true) (item null no_items))) (member (codes "b") (number (unsigned 7)) no_members))

pub members_canonical : IsCanonicalText (codes "{\"a\":[true,null],\"b\":7}")
unfolding lex punctuate items members value number_of two_members content word after_number scan_numeral escape_byte digits
members_canonical = (two_members, record { utf8 = utf8 (codes "{\"a\":[true,null],\"b\":7}") refl; reads = refl; whole = refl; written = refl })

-- ---- a text that reads as a value whose text is another

some_is : {X : Type 0} (x y : X) → Some x ≡ Some y → x ≡ y
some_is x y h = cc

not_written : (body : List ℕ) (v : Data) → read body ≡ Some v → (body ≡ compact_text v → ⊥) → ¬ IsCanonicalText body
not_written body v reads other c =
    let is : v ≡ c.0 = some_is v c.0 (sym reads ∙ c.1.reads) in
    other (c.1.written ∙ ap compact_text (sym is))

-- one that reads as a float
from_test : (b : Bool) (x : Float) (n : Num) → (if b then Some (float x) else None) ≡ Some n → is_float n ≡ true
from_test true x n h = ap is_float (sym (some_is (float x) n h))
from_test false x n h = absurd (cc)

mapped : (o : Option Num) (v : Data) → option_map number o ≡ Some v → ((n : Num) → o ≡ Some n → is_float n ≡ true) → has_float v ≡ true
mapped None v h is = absurd (cc)
mapped (Some n) v h is = ap has_float (sym (some_is (number n) v h)) ∙ is n refl

not_whole : (body : List ℕ) (sign : Bool) (p : Parts) → read body ≡ option_map number (float_of sign p) → ¬ IsCanonicalText body
not_whole body sign p reads c =
    let is : has_float c.0 ≡ true = mapped (float_of sign p) c.0 (sym reads ∙ c.1.reads) (λ n. from_test _ _ n) in
    let both : false ≡ true = sym c.1.whole ∙ is in
    cc

pub space_other : ¬ IsCanonicalText (codes "{ }")
unfolding lex punctuate items members value
space_other = not_written (codes "{ }") (object no_members) refl (λ same. let at : 32 ≡ 125 = ap (λ (w : List ℕ). get_or w 1 0) same in omega arith)

pub fraction_other : ¬ IsCanonicalText (codes "7.0")
unfolding lex punctuate items members value number_of content word after_number scan_numeral escape_byte digits
fraction_other = not_whole (codes "7.0") false (scan_numeral (codes "7.0")) refl

pub minus_zero_other : ¬ IsCanonicalText (codes "-0")
unfolding lex punctuate items members value number_of content word after_number scan_numeral escape_byte digits
minus_zero_other = not_whole (codes "-0") true (scan_numeral (codes "0")) refl

pub twice_other : ¬ IsCanonicalText (codes "{\"a\":7,\"a\":7}")
unfolding lex punctuate items members value number_of content word after_number scan_numeral escape_byte digits
twice_other = not_written (codes "{\"a\":7,\"a\":7}") (object (member (codes "a") (number (unsigned 7)) no_members)) refl
    (λ same. let at : 44 ≡ 125 = ap (λ (w : List ℕ). get_or w 6 0) same in omega arith)

pub order_other : ¬ IsCanonicalText (codes "{\"b\":7,\"a\":7}")
unfolding lex punctuate items members value number_of content word after_number scan_numeral escape_byte digits
order_other =
    not_written (codes "{\"b\":7,\"a\":7}") (object (member (codes "a") (number (unsigned 7)) (member (codes "b") (number (unsigned 7)) no_members))) refl
    (λ same. let at : 98 ≡ 97 = ap (λ (w : List ℕ). get_or w 2 0) same in omega arith)

pub escape_other : ¬ IsCanonicalText (codes "\"\\u0041\"")
unfolding lex punctuate items members value content code_unit encode_utf8 escape_byte
escape_other = not_written (codes "\"\\u0041\"") (string (codes "A")) refl (λ same. let at : 92 ≡ 65 = ap (λ (w : List ℕ). get_or w 1 0) same in omega arith)
