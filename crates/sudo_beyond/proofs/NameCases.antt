-- The case of a name: itself if it is fixed or stands in a policy, else the first other name.
use Rattle.std.proofs.Common.{◌≡◌, ℕ, ◌+◌, ◌^◌, ◌<◌, Bool, true, false, not, leb, ◌&&◌, Option, Some}
use Rattle.std.proofs.Common.{None, List, [], ◌∷◌, ◌++◌, length, refl, sym, ap, ◌∙◌, inl, inr, arith}
use Rattle.std.specs.Prelude.{codes}
use Rattle.std.specs.List.{AllByRecursion, list_any, list_all}
use Rattle.std.specs.Str.{bytes_eq}
use Rattle.std.specs.Fmt.{decimal}
use Rattle.std.proofs.lemmas.Bool.{cases_Bool, agree_below_at, or_parts, and_from, le-leb}
use Rattle.std.proofs.lemmas.Slice.Eq.{bytes_eq-Decides}
use Rattle.sudo_words.specs.Word.{is_name, is_name_shape, is_host_name, is_label, is_keyword, is_name_byte}
use Rattle.sudo_words.specs.Word.{is_host_byte, is_path_byte, is_arg_byte, is_component, is_arg}
use Rattle.sudo_beyond.specs.Alike.{AlikeNames}
use Rattle.sudo_beyond.specs.Beyond.{Agrees}
use Rattle.sudo_beyond.specs.Cases.{other, has_word}
use Rattle.sudo_beyond.specs.private.Gathering.{IsFormOfOthers}
use Rattle.sudo_beyond.proofs.OneCase.{IsNameCase}
use Rattle.sudo_beyond.proofs.AlikeLemmas.{all_weaker}
use Rattle.sudo_beyond.proofs.Fresh.{other_all, other_length, found_other}

-- ---- other words have each form

-- a test of the ten digits computes
name_digit : (b : ℕ) → b < 10 → is_name_byte (48 + b) ≡ true
name_digit b small = agree_below_at (λ d. is_name_byte (48 + d)) (λ d. true) 10 b refl small

host_digit : (b : ℕ) → b < 10 → is_host_byte (48 + b) ≡ true
host_digit b small = agree_below_at (λ d. is_host_byte (48 + d)) (λ d. true) 10 b refl small

path_digit : (b : ℕ) → b < 10 → is_path_byte (48 + b) ≡ true
path_digit b small = agree_below_at (λ d. is_path_byte (48 + d)) (λ d. true) 10 b refl small

arg_digit : (b : ℕ) → b < 10 → is_arg_byte (48 + b) ≡ true
arg_digit b small = agree_below_at (λ d. is_arg_byte (48 + d)) (λ d. true) 10 b refl small

-- no keyword begins as they do
other_no_keyword : (k : ℕ) → not (is_keyword (other k)) ≡ true
unfolding is_keyword
other_no_keyword k = refl

pub other_name : IsFormOfOthers is_name
other_name k small =
    and_from (is_name_shape (other k)) (not (is_keyword (other k)))
    (and_from (list_all is_name_byte (codes "ther" ++ decimal k)) (leb (length (other k)) 32)
    (other_all is_name_byte refl name_digit k small)
    (le-leb (length (other k)) 32 (omega (arith, other_length k small))))
    (other_no_keyword k)

pub other_host : IsFormOfOthers is_host_name
other_host k small =
    and_from (is_label (other k)) (not (is_keyword (other k)))
    (and_from (list_all is_host_byte (codes "ther" ++ decimal k)) (leb (length (other k)) 32)
    (other_all is_host_byte refl host_digit k small)
    (le-leb (length (other k)) 32 (omega (arith, other_length k small))))
    (other_no_keyword k)

pub other_component : IsFormOfOthers is_component
other_component k small =
    and_from (leb 1 (length (other k)) && list_all is_path_byte (other k)) true (and_from (leb 1 (length (other k)))
    (list_all is_path_byte (other k)) (le-leb 1 (length (other k)) (omega arith)) (other_all is_path_byte refl path_digit k small)) refl

pub other_arg : IsFormOfOthers is_arg
other_arg k small =
    and_from (list_all is_arg_byte (other k) && leb 1 (length (other k))) (leb (length (other k)) 64)
    (and_from (list_all is_arg_byte (other k)) (leb 1 (length (other k))) (other_all is_arg_byte refl arg_digit k small)
    (le-leb 1 (length (other k)) (omega arith))) (le-leb (length (other k)) 64 (omega (arith, other_length k small)))

-- ---- names that are not in a list

pub none_each : {X : Type 0} (test : X → Bool) (xs : List X) → list_any test xs ≡ false → AllByRecursion (λ x. test x ≡ false) xs
none_each test [] none = tt
none_each test (x ∷ xs) none = let parts = or_parts (test x) (list_any test xs) none in (parts.0, none_each test xs parts.1)

pub all_both : {X : Type 0} (P Q : X → Type 0) (xs : List X) → AllByRecursion P xs → AllByRecursion Q xs → AllByRecursion (λ x. P x × Q x) xs
all_both P Q [] p q = tt
all_both P Q (x ∷ xs) p q = ((p.0, q.0), all_both P Q xs p.1 q.1)

pub all_true : {X : Type 0} (P : X → Type 0) (xs : List X) → ((x : X) → P x) → AllByRecursion P xs
all_true P [] each = tt
all_true P (x ∷ xs) each = (each x, all_true P xs each)

pub same_name : (names : List (List ℕ)) (x : List ℕ) → AlikeNames names x x
same_name names x = all_true (λ name. bytes_eq name x ≡ bytes_eq name x) names (λ name. refl)

-- two names that are not in a list are alike
unlike : (names : List (List ℕ)) (x y : List ℕ) → has_word names x ≡ false → has_word names y ≡ false → AlikeNames names x y
unlike names x y no_x no_y =
    all_weaker (λ name. (bytes_eq name x ≡ false) × (bytes_eq name y ≡ false)) (λ name. bytes_eq name x ≡ bytes_eq name y) names
    (λ name both. both.0 ∙ sym both.1) (all_both (λ name. bytes_eq name x ≡ false) (λ name. bytes_eq name y ≡ false) names
    (none_each (λ name. bytes_eq name x) names no_x) (none_each (λ name. bytes_eq name y) names no_y))

pub record NameStands (form : List ℕ → Bool) (fixed : Option (List ℕ)) (standing : List (List ℕ)) (x : List ℕ) : Type 0 where
  pub name : List ℕ
  pub is_case : IsNameCase fixed standing name
  pub agrees : Agrees fixed name
  pub is_form : form name ≡ true
  pub alike : AlikeNames standing x name

pub name_stands : (form : List ℕ → Bool) → IsFormOfOthers form → (fixed : Option (List ℕ)) (standing : List (List ℕ)) (x : List ℕ)
    → length standing < 2 ^ 64 → form x ≡ true → Agrees fixed x → NameStands form fixed standing x
name_stands form others (Some fixed) standing x short is agrees =
    record { name = x; is_case = agrees; agrees = agrees; is_form = is; alike = same_name standing x }
name_stands form others None standing x short is agrees =
    elim (cases_Bool (has_word standing x)) [
      | inl stands ↦ record { name = x; is_case = inl stands; agrees = tt; is_form = is; alike = same_name standing x }
      | inr absent ↦
          let found = found_other bytes_eq bytes_eq-Decides (λ w. w) (λ v w same. same) standing short in
          record {
            name = found.word;
            is_case = inr found.first;
            agrees = tt;
            is_form = ap form found.first.word_is ∙ others found.first.number (omega (arith, found.low));
            alike = unlike standing x found.word absent found.first.free;
          }
    ]
