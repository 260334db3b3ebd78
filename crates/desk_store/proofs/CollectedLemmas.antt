-- A message put into a list beside the texts.
use Rattle.std.proofs.Common.{◌≡◌, ◌≢◌, ◌⊎◌, ℕ, ◌<◌, List, [], ◌∷◌, ◌++◌, length, get_or, Bool, true, false}
use Rattle.std.proofs.Common.{◌||◌, Global, refl, sym, ap, ◌∙◌, subst, inl, inr, IsPermutation}
use Rattle.std.specs.Prelude.{String, Contains, string_bytes}
use Rattle.std.specs.Str.{bytes_eq}
use Rattle.std.proofs.lemmas.List.Elements.{Contains-append_left, Contains-push, Contains-push_cases, Contains-get_or}
use Rattle.std.proofs.lemmas.List.Quantifiers.{all_pairs_push}
use Rattle.std.proofs.lemmas.List.Sorted.{list_any-IsPermutation}
use Rattle.std.proofs.lemmas.Slice.Eq.{bytes_eq-Decides}
use Rattle.messages.specs.Wire.{wire, IsMessage}
use Rattle.messages.specs.declared.message.Message.{Message}
use Rattle.messages.proofs.Uniqueness.{one_message}
use Rattle.desk_store.specs.private.Collected.{IsKept, has_text}

abbrev Text : Type 0
Text = String Global

-- ---- the texts

abbrev same : List ℕ → Text → Bool
same t k = bytes_eq t (string_bytes k)

-- the texts with one more, in any order
inserted : (t : List ℕ) (k : Text) (old new : List Text) → IsPermutation (k ∷ old) new → has_text new t ≡ (same t k || has_text old t)
inserted t k old new more = sym (list_any-IsPermutation (same t) (k ∷ old) new more)

pub is_itself : (t : List ℕ) → bytes_eq t t ≡ true
is_itself t = (bytes_eq-Decides t t).1 refl

bytes_from_same : (t : List ℕ) (k : Text) → same t k ≡ true → t ≡ string_bytes k
bytes_from_same t k is = (bytes_eq-Decides t (string_bytes k)).0 is

or_cases : (a b : Bool) → (a || b) ≡ true → (a ≡ true) ⊎ (b ≡ true)
or_cases true b is = inl refl
or_cases false b is = inr is

or_right : (a b : Bool) → b ≡ true → (a || b) ≡ true
or_right true b is = refl
or_right false b is = is

-- ---- the messages

-- a new message and its text
pub stays_kept : (ms : List Message) (ks new : List Text) (m : Message) (k : Text) → IsKept ms ks → IsMessage m → string_bytes k ≡ wire m
    → IsPermutation (k ∷ ks) new → ¬ Contains ms m → IsKept (ms ++ m ∷ []) new
stays_kept ms ks new m k kept is text more absent = record {
  only = λ n there. elim (Contains-push_cases ms m n there) as (λ _. IsMessage n) [
    | inl before ↦ kept.only n before
    | inr equal ↦ subst IsMessage equal is
  ];
  once = all_pairs_push (λ a b. a ≢ b) ms m kept.once (λ i d inside. apart i d inside);
  known = λ n message there. inserted (wire n) k ks new more ∙ known_now n message (Contains-push_cases ms m n there);
  found = λ n message has. found_now n message (or_cases (same (wire n) k) (has_text ks (wire n)) (sym (inserted (wire n) k ks new more) ∙ has));
}
  where
    apart : (i : ℕ) (d : Message) → i < length ms → get_or ms i d ≢ m
    apart i d inside equal = let P : Message → Type 0 = λ x. Contains ms x in absurd (absent (subst P equal (Contains-get_or ms i d inside)))

    known_now : (n : Message) → IsMessage n → (Contains ms n ⊎ (m ≡ n)) → (same (wire n) k || has_text ks (wire n)) ≡ true
    known_now n message (inl before) = or_right (same (wire n) k) (has_text ks (wire n)) (kept.known n message before)
    known_now n message (inr equal) =
        let bytes : string_bytes k ≡ wire n = text ∙ ap wire equal in
        ap (λ b. bytes_eq (wire n) b || has_text ks (wire n)) bytes ∙ ap (λ b. b || has_text ks (wire n)) (is_itself (wire n))

    found_now : (n : Message) → IsMessage n → ((same (wire n) k ≡ true) ⊎ (has_text ks (wire n) ≡ true)) → Contains (ms ++ m ∷ []) n
    found_now n message (inl now) =
        let equal : m ≡ n = one_message m n is message (sym text ∙ sym (bytes_from_same (wire n) k now)) in
        let P : Message → Type 0 = λ x. Contains (ms ++ m ∷ []) x in
        subst P equal (Contains-push ms m)
    found_now n message (inr before) = Contains-append_left ms (m ∷ []) n (kept.found n message before)

module _ (ms : List Message) (ks : List Text) (m : Message) (kept : IsKept ms ks) (is : IsMessage m) where
  -- where the text is missing, the message is
  pub is_absent : has_text ks (wire m) ≡ false → ¬ Contains ms m
  is_absent missing there = let wrong : true ≡ false = sym (kept.known m is there) ∙ missing in cc

  -- where the text is there, the message is
  pub is_there : has_text ks (wire m) ≡ true → Contains ms m
  is_there known = kept.found m is known

  pub put_kept : (k : Text) (new : List Text) → string_bytes k ≡ wire m
      → has_text ks (wire m) ≡ false → IsPermutation (k ∷ ks) new → IsKept (ms ++ m ∷ []) new
  put_kept k new text missing more = stays_kept ms ks new m k kept is text more (is_absent missing)
