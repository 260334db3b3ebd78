-- The messages of a list, put one after the other into a list that has each once.
use Rattle.std.proofs.Common.{◌≡◌, ◌∙◌, inl, inr, ℕ, ◌<◌, ◌+◌, List, [], ◌∷◌, ◌++◌, length, get_or, take, Contains, ap, sym, subst}
use Rattle.std.proofs.lemmas.List.{take_more}
use Rattle.std.proofs.lemmas.List.Elements.{Contains-append_left, Contains-push, Contains-push_cases}
use Rattle.messages.specs.declared.message.Message.{Message}
use Rattle.store_tables.specs.Sets.{Lists, SameSet}
use Rattle.desk_store.specs.private.Collected.{IsPut}

-- the two lists have the same messages
abbrev pub AreSame : List Message → List Message → Type 0
AreSame xs ys = SameSet (λ m. Contains xs m) (λ m. Contains ys m)

turned : (m n : Message) → m ≡ n → n ≡ m
turned m n is = sym is

push_same : (xs old new : List Message) (x : Message) → AreSame xs old → IsPut old x new → AreSame (xs ++ x ∷ []) new
push_same xs old new x same (inl (there, is)) m = (
  (λ held. subst (λ l. Contains l m) (sym is) (elim (Contains-push_cases xs x m held) as (λ _. Contains old m) [
    | inl before ↦ (same m).0 before
    | inr equal ↦ subst (λ n. Contains old n) equal there
  ])),
  (λ held. Contains-append_left xs (x ∷ []) m ((same m).1 (subst (λ l. Contains l m) is held))),
)
push_same xs old new x same (inr (absent, is)) m = (
  (λ held. subst (λ l. Contains l m) (sym is) (elim (Contains-push_cases xs x m held) as (λ _. Contains (old ++ x ∷ []) m) [
    | inl before ↦ Contains-append_left old (x ∷ []) m ((same m).0 before)
    | inr equal ↦ subst (λ n. Contains (old ++ x ∷ []) n) equal (Contains-push old x)
  ])),
  (λ held. elim (Contains-push_cases old x m (subst (λ l. Contains l m) is held)) as (λ _. Contains (xs ++ x ∷ []) m) [
    | inl before ↦ Contains-append_left xs (x ∷ []) m ((same m).1 before)
    | inr equal ↦ subst (λ n. Contains (xs ++ x ∷ []) n) equal (Contains-push xs x)
  ]),
)

-- one message more
pub put_more : (all old new : List Message) (i : ℕ) (x : Message) → i < length all
    → x ≡ get_or all i x → AreSame (take i all) old → IsPut old x new → AreSame (take (i + 1) all) new
put_more all old new i x within is same put =
    let more : take (i + 1) all ≡ take i all ++ x ∷ [] = take_more all i x within ∙ ap (λ y. take i all ++ y ∷ []) (sym is) in
    subst (λ l. AreSame l new) (sym more) (push_same (take i all) old new x same put)

-- a list with the same messages still lists the set
pub lists_same : (S : Message → Type 0) (xs ys : List Message) → Lists S xs → AreSame xs ys → Lists S ys
lists_same S xs ys lists same m = ((λ held. (same m).0 ((lists m).0 held)), (λ there. (lists m).1 ((same m).1 there)))
