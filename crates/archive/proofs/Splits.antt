-- A list of messages that is split as it is read: what is over in the whole, and what is not.
use Rattle.std.proofs.Common.{◌≡◌, ℕ, Bool, true, false, List, [], ◌∷◌, ◌++◌, inl, inr, refl, sym, ◌∙◌, subst, arith, length, append_assoc, append-nil}
use Rattle.std.specs.Prelude.{◌↔◌, IsTrue}
use Rattle.std.specs.List.{Contains}
use Rattle.std.proofs.lemmas.List.Elements.{Contains-append_left, Contains-push, Contains-push_cases}
use Rattle.std.specs.List.Sorted.{IsPermutation}
use Rattle.std.proofs.lemmas.List.Sorted.{IsPermutation-append_left, IsPermutation-middle, IsPermutation-refl, IsPermutation-sym}
use Rattle.std.proofs.lemmas.List.Sorted.{IsPermutation-to_front, IsPermutation-trans}
use Rattle.messages.specs.declared.message.Message.{Message}
use Rattle.outcomes.proofs.Membership.{no_member}
use Rattle.archive.specs.Archive.{IsOver}

-- what is so far kept, and what is archived
pub record Splits (set : List Message) (moment : ℕ) (seen kept archived : List Message) : Type 0 where
  pub kept_are : (m : Message) → Contains kept m ↔ (Contains seen m × (IsOver set moment m → ⊥))
  pub archived_are : (m : Message) → Contains archived m ↔ (Contains seen m × IsOver set moment m)
  pub whole : IsPermutation seen (kept ++ archived)

-- a list of the messages with P of those seen, as one more is seen that has it
module _ (P : Message → Type 0) (seen list : List Message) (m : Message) (are : (n : Message) → Contains list n ↔ (Contains seen n × P n)) where
  among : P m → (n : Message) → Contains (list ++ m ∷ []) n ↔ (Contains (seen ++ m ∷ []) n × P n)
  among is n = (
    λ h. elim (Contains-push_cases list m n h) as (λ _. Contains (seen ++ m ∷ []) n × P n) [
      | inl old ↦ let before = (are n).0 old in (Contains-append_left seen (m ∷ []) n before.0, before.1)
      | inr same ↦ subst (λ (x : Message). Contains (seen ++ m ∷ []) x × P x) same (Contains-push seen m, is)
    ],
    λ both. elim (Contains-push_cases seen m n both.0) as (λ _. Contains (list ++ m ∷ []) n) [
      | inl old ↦ Contains-append_left list (m ∷ []) n ((are n).1 (old, both.1))
      | inr same ↦ subst (λ (x : Message). Contains (list ++ m ∷ []) x) same (Contains-push list m)
    ],
  )

  -- and one that has it not
  beside : (P m → ⊥) → (n : Message) → Contains list n ↔ (Contains (seen ++ m ∷ []) n × P n)
  beside not n = (
    λ h. let before = (are n).0 h in (Contains-append_left seen (m ∷ []) n before.0, before.1),
    λ both. elim (Contains-push_cases seen m n both.0) as (λ _. Contains list n) [
      | inl old ↦ (are n).1 (old, both.1)
      | inr same ↦ absurd (not (subst P (sym same) both.1))
    ],
  )

pub splits_none : (set : List Message) (moment : ℕ) (kept archived : List Message) → kept ≡ [] → archived ≡ [] → Splits set moment [] kept archived
splits_none set moment kept archived k a = rw (k, a) (record {
  kept_are = λ m. (λ h. absurd (no_member m h), λ both. both.0);
  archived_are = λ m. (λ h. absurd (no_member m h), λ both. both.0);
  whole = IsPermutation-refl [];
})

-- one message more, in the archive
gone_at_end : (seen kept archived : List Message) (m : Message) → IsPermutation seen (kept ++ archived)
    → IsPermutation (seen ++ m ∷ []) (kept ++ (archived ++ m ∷ []))
gone_at_end seen kept archived m p =
    subst (IsPermutation (seen ++ m ∷ [])) (append_assoc kept archived (m ∷ [])) (IsPermutation-append_left (m ∷ []) seen (kept ++ archived) p)

-- and one that stays
kept_at_end : (seen kept archived : List Message) (m : Message) → IsPermutation seen (kept ++ archived)
    → IsPermutation (seen ++ m ∷ []) ((kept ++ m ∷ []) ++ archived)
kept_at_end seen kept archived m p =
    let front : IsPermutation (seen ++ m ∷ []) (m ∷ (kept ++ archived)) =
    IsPermutation-trans (seen ++ m ∷ []) ((kept ++ archived) ++ m ∷ []) (m ∷ (kept ++ archived))
    (IsPermutation-append_left (m ∷ []) seen (kept ++ archived) p) (IsPermutation-to_front (kept ++ archived) m) in
    subst (IsPermutation (seen ++ m ∷ [])) (sym (append_assoc kept (m ∷ []) archived))
    (IsPermutation-trans (seen ++ m ∷ []) (m ∷ (kept ++ archived)) (kept ++ m ∷ archived) front
    (IsPermutation-sym (kept ++ m ∷ archived) (m ∷ (kept ++ archived)) (IsPermutation-middle kept m archived)))

not_true : false ≡ true → ⊥
not_true e = cc

pub splits_more : (set : List Message) (moment : ℕ) (seen kept archived more gone : List Message) (m : Message) (over : Bool)
    → IsTrue over ↔ IsOver set moment m
    → (over ≡ true → gone ≡ archived ++ m ∷ []) → (over ≡ true → more ≡ kept) → (over ≡ false → more ≡ kept ++ m ∷ []) → (over ≡ false → gone ≡ archived)
    → Splits set moment seen kept archived → Splits set moment (seen ++ m ∷ []) more gone
splits_more set moment seen kept archived more gone m true is a b x y s =
    rw (a refl, b refl) (record {
      kept_are = beside (λ n. IsOver set moment n → ⊥) seen kept m s.kept_are (λ stays. stays (is.0 refl));
      archived_are = among (λ n. IsOver set moment n) seen archived m s.archived_are (is.0 refl);
      whole = gone_at_end seen kept archived m s.whole;
    })
splits_more set moment seen kept archived more gone m false is a b x y s =
    rw (x refl, y refl) (record {
      kept_are = among (λ n. IsOver set moment n → ⊥) seen kept m s.kept_are (λ over. not_true (is.1 over));
      archived_are = beside (λ n. IsOver set moment n) seen archived m s.archived_are (λ over. not_true (is.1 over));
      whole = kept_at_end seen kept archived m s.whole;
    })

pub splits_all : (set : List Message) (moment : ℕ) (seen rest kept archived : List Message) (left : ℕ) → seen ++ rest ≡ set → left ≡ length rest → left ≡ 0
    → Splits set moment seen kept archived → Splits set moment set kept archived
splits_all set moment seen [] kept archived left split same none s =
    subst (λ (ms : List Message). Splits set moment ms kept archived) (sym (append-nil seen) ∙ split) s
splits_all set moment seen (m ∷ rest) kept archived left split same none s = absurd (omega (arith, same, none))
