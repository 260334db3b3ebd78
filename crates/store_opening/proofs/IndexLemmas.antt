-- What the names in order tell of the messages.
use Rattle.std.proofs.Common.{◌≡◌, ◌⊎◌, inl, inr, ℕ, ℤ, pos, ◌+◌, ◌<◌, Bool, true, false, true≢false, not, List, []}
use Rattle.std.proofs.Common.{◌∷◌, ◌++◌, length, get_or, map, take, Contains, Some, None, refl, sym, ap, subst, ◌∙◌}
use Rattle.std.specs.List.{list_any}
use Rattle.std.specs.List.Sorted.{IsPermutation, IsSorted}
use Rattle.std.specs.Str.{bytes_eq}
use Rattle.std.proofs.lemmas.Bool.{and_parts, and_from, cases_Bool}
use Rattle.std.proofs.lemmas.Bool.Decides.{Decides-eqb}
use Rattle.std.proofs.lemmas.List.{take_more}
use Rattle.std.proofs.lemmas.List.Sorted.{Contains-permutation, IsPermutation-sym, list_any-IsPermutation}
use Rattle.std.proofs.lemmas.Slice.Eq.{bytes_eq-Decides}
use Rattle.sqlite_rules.specs.Lists.{Has}
use Rattle.sqlite_rules.proofs.ListLemmas.{contains_had, has_contained, has_either, has_left, has_right, some_from, some_has}
use Rattle.sqlite_rules.proofs.ProbeLemmas.{has_mapped, mapped_has}
use Rattle.messages.specs.Fields.{RequestFields, VerdictFields}
use Rattle.messages.specs.Wire.{wire}
use Rattle.messages.specs.declared.message.Message.{Message}
use Rattle.messages.specs.declared.message.Message.TheVariants.{Request, Verdict}
use Rattle.store_opening.specs.private.Compare.{asks, is_disputed, is_named, is_other}
use Rattle.store_opening.specs.declared.names.Asked.{Asked}
use Rattle.store_opening.specs.declared.names.NameKey.{NameKey}
use Rattle.store_opening.specs.private.Names.{AreAsked, IsFrom, IsIndex, IsTold, asked_cmp, differs, has_name, is_at, name_of}
use Rattle.store_opening.proofs.NameLemmas.{asked_rising, is_the_name, one_text, same_name, two_texts}

-- ---- one message more

more : {X : Type 0} (xs : List X) (x y : X) → Contains (xs ++ x ∷ []) y → Contains xs y ⊎ (y ≡ x)
more xs x y there = elim (has_either xs (x ∷ []) y (has_contained (xs ++ x ∷ []) y there)) [ inl old ↦ inl (contains_had xs y old) | inr new ↦ last new ]
  where
    last : Has (x ∷ []) y → Contains xs y ⊎ (y ≡ x)
    last (inl e) = inr e
    last (inr none) = absurd none

kept : {X : Type 0} (xs : List X) (x y : X) → Contains xs y → Contains (xs ++ x ∷ []) y
kept xs x y there = contains_had (xs ++ x ∷ []) y (has_left xs (x ∷ []) y (has_contained xs y there))

added : {X : Type 0} (xs : List X) (x : X) → Contains (xs ++ x ∷ []) x
added xs x = contains_had (xs ++ x ∷ []) x (has_right xs (x ∷ []) x (inl refl))

one_request : (p q : RequestFields) → Request p ≡ Request q → p ≡ q
one_request p q e = cc

asked_more : (ms : List Message) (xs : List Asked) (m : Message) (a : Asked) → AreAsked ms xs → IsTold m (Some a) → AreAsked (ms ++ m ∷ []) (xs ++ a ∷ [])
asked_more ms xs (Verdict v) a are from = absurd from
asked_more ms xs (Request q) a are from = record {
  each = λ b there. elim (more xs a b there) [
    | inl old ↦ let it = are.each b old in (it.0, kept ms (Request q) (Request it.0) it.1, it.2)
    | inr new ↦ (q, added ms (Request q), subst (IsFrom q) (sym new) from)
  ];
  all = λ p there. elim (more ms (Request q) (Request p) there) [
    | inl old ↦ let it = are.all p old in (it.0, kept xs a it.0 it.1, it.2)
    | inr new ↦ (a, added xs a, subst (λ r. IsFrom r a) (sym (one_request p q new)) from)
  ];
}

asked_still : (ms : List Message) (xs : List Asked) (m : Message) → AreAsked ms xs → IsTold m None → AreAsked (ms ++ m ∷ []) xs
asked_still ms xs (Request q) are none = absurd none
asked_still ms xs (Verdict v) are none = record {
  each = λ b there. let it = are.each b there in (it.0, kept ms (Verdict v) (Request it.0) it.1, it.2);
  all = λ p there. elim (more ms (Verdict v) (Request p) there) [
    | inl old ↦ are.all p old
    | inr new ↦ absurd (other p v new)
  ];
}
  where
    other : (p : RequestFields) (v : VerdictFields) → Request p ≡ Verdict v → ⊥
    other p v e = cc

-- the same over the front of a list
module _ (ms : List Message) (i : ℕ) (m : Message) (within : i < length ms) (is : m ≡ get_or ms i m) (xs : List Asked) (are : AreAsked (take i ms) xs) where
  front : take (i + 1) ms ≡ take i ms ++ m ∷ []
  front = take_more ms i m within ∙ ap (λ x. take i ms ++ x ∷ []) (sym is)

  pub told_more : (a : Asked) → IsTold m (Some a) → AreAsked (take (i + 1) ms) (xs ++ a ∷ [])
  told_more a from = subst (λ l. AreAsked l (xs ++ a ∷ [])) (sym front) (asked_more (take i ms) xs m a are from)

  pub told_none : IsTold m None → AreAsked (take (i + 1) ms) xs
  told_none none = subst (λ l. AreAsked l xs) (sym front) (asked_still (take i ms) xs m are none)

pub asked_permuted : (ms : List Message) (xs ys : List Asked) → IsPermutation xs ys → AreAsked ms xs → AreAsked ms ys
asked_permuted ms xs ys same are = record {
  each = λ a there. are.each a (Contains-permutation ys xs a (IsPermutation-sym xs ys same) there);
  all = λ q there. let it = are.all q there in (it.0, Contains-permutation xs ys it.0 same it.1, it.2);
}

-- ---- what is asked, and what is disputed

not_true : (b : Bool) → not b ≡ true → b ≡ false
not_true true h = absurd (true≢false (sym h))
not_true false h = refl

one_number : (m n : ℕ) → pos m ≡ pos n → m ≡ n
one_number m n e = cc

both_or_none : (a b : Bool) → (a ≡ true → b ≡ true) → (b ≡ true → a ≡ true) → a ≡ b
both_or_none true true to from = refl
both_or_none true false to from = sym (to refl)
both_or_none false true to from = from refl
both_or_none false false to from = refl

module _ (ms : List Message) (xs : List Asked) (are : AreAsked ms xs) where
  -- ---- a name with a request

  told_by : (asker : List ℕ) (number : ℕ) → list_any (is_at asker (pos number)) (map name_of xs) ≡ true → asks ms asker number ≡ true
  told_by asker number some =
      let n = some_has (is_at asker (pos number)) (map name_of xs) some in
      let a = has_mapped name_of xs n.0 n.1 in
      let q = are.each a.0 (contains_had xs a.0 a.1) in
      let name = same_name asker (pos number) n.0 n.2 in
      let by : q.0.by ≡ asker = sym q.2.by ∙ ap (λ (m : NameKey). m.by.now) (sym a.2) ∙ name.0 in
      let number_is : q.0.no ≡ number = one_number _ _ (sym q.2.number ∙ ap (λ (m : NameKey). m.number) (sym a.2) ∙ name.1) in
      some_from (is_named asker number) ms (Request q.0) (has_contained ms (Request q.0) q.1)
      (and_from _ _ ((bytes_eq-Decides q.0.by asker).1 by) ((Decides-eqb q.0.no number).1 number_is))

  named_there : (asker : List ℕ) (number : ℕ) (m : Message) → Has ms m → is_named asker number m ≡ true
      → list_any (is_at asker (pos number)) (map name_of xs) ≡ true
  named_there asker number (Verdict v) there is = absurd (true≢false (sym is))
  named_there asker number (Request q) there is =
      let both = and_parts _ _ is in
      let a = are.all q (contains_had ms (Request q) there) in
      some_from (is_at asker (pos number)) (map name_of xs) a.0.name (mapped_has name_of xs a.0 (has_contained xs a.0 a.1))
      (is_the_name asker (pos number) a.0.name (a.2.by ∙ (bytes_eq-Decides q.by asker).0 both.0) (a.2.number ∙ ap pos ((Decides-eqb q.no number).0 both.1)))

  asked_there : (asker : List ℕ) (number : ℕ) → list_any (is_at asker (pos number)) (map name_of xs) ≡ asks ms asker number
  asked_there asker number =
      both_or_none (list_any (is_at asker (pos number)) (map name_of xs)) (asks ms asker number) (told_by asker number)
      (λ some. let it = some_has (is_named asker number) ms some in named_there asker number it.0 it.1 it.2)

  pub asks_by : (names : List NameKey) → IsPermutation (map name_of xs) names
      → (asker : List ℕ) (number : ℕ) → list_any (is_at asker (pos number)) names ≡ asks ms asker number
  asks_by names same asker number = sym (list_any-IsPermutation (is_at asker (pos number)) _ names same) ∙ asked_there asker number

  -- ---- a name with two requests

  module _ (sorted : IsSorted asked_cmp xs) (q : RequestFields) (here : Contains ms (Request q)) where
    of_name : (p : RequestFields) (a : Asked) → IsFrom p a → p.by ≡ q.by → p.no ≡ q.no → has_name q.by (pos q.no) a ≡ true
    of_name p a from by number = is_the_name q.by (pos q.no) a.name (from.by ∙ by) (from.number ∙ ap pos number)

    own : (a : Asked) × Contains xs a × IsFrom q a
    own = are.all q here

    other_is : (p : RequestFields) → Contains ms (Request p) → p.by ≡ q.by → p.no ≡ q.no
        → bytes_eq (wire (Request p)) (wire (Request q)) ≡ false → is_disputed ms (Request q) ≡ true
    other_is p there by number apart =
        some_from (is_other (Request q)) ms (Request p) (has_contained ms (Request p) there)
        (and_from _ _ (and_from _ _ ((bytes_eq-Decides p.by q.by).1 by) ((Decides-eqb p.no q.no).1 number)) (ap not apart))

    -- two texts of the name are of two requests, and one of these is another than this
    two_requests : differs q.by (pos q.no) xs ≡ true → is_disputed ms (Request q) ≡ true
    two_requests some =
        let two = two_texts q.by (pos q.no) xs some in
        let a = are.each two.p (contains_had xs two.p two.here) in
        let b = are.each two.q (contains_had xs two.q two.there) in
        let a_name = same_name q.by (pos q.no) two.p.name two.of in
        let b_name = same_name q.by (pos q.no) two.q.name two.too in
        let a_no : a.0.no ≡ q.no = one_number _ _ (sym a.2.number ∙ a_name.1) in
        let b_no : b.0.no ≡ q.no = one_number _ _ (sym b.2.number ∙ b_name.1) in
        let a_text = bytes_eq-Decides (wire (Request a.0)) (wire (Request q)) in
        let b_text = bytes_eq-Decides (wire (Request b.0)) (wire (Request q)) in
        elim (cases_Bool (bytes_eq (wire (Request a.0)) (wire (Request q)))) [
          | inr apart ↦ other_is a.0 a.1 (sym a.2.by ∙ a_name.0) a_no apart
          | inl same ↦ elim (cases_Bool (bytes_eq (wire (Request b.0)) (wire (Request q)))) [
            | inr apart ↦ other_is b.0 b.1 (sym b.2.by ∙ b_name.0) b_no apart
            | inl too ↦
                let texts : two.p.text.now ≡ two.q.text.now = a.2.text ∙ a_text.0 same ∙ sym (b_text.0 too) ∙ sym b.2.text in
                absurd (true≢false (sym ((bytes_eq-Decides two.p.text.now two.q.text.now).1 texts) ∙ two.apart))
          ]
        ]

    -- where there is another, its text differs from this one's
    other_there : (m : Message) → Has ms m → is_other (Request q) m ≡ true → differs q.by (pos q.no) xs ≡ true
    other_there (Verdict v) there is = absurd (true≢false (sym is))
    other_there (Request p) there is = elim (cases_Bool (differs q.by (pos q.no) xs)) [
      | inl found ↦ found
      | inr none ↦
          let parts = and_parts _ _ is in
          let name = and_parts _ _ parts.0 in
          let a = are.all p (contains_had ms (Request p) there) in
          let of = of_name p a.0 a.2 ((bytes_eq-Decides p.by q.by).0 name.0) ((Decides-eqb p.no q.no).0 name.1) in
          let texts = one_text q.by (pos q.no) xs (asked_rising xs sorted) none a.0 own.0
          (has_contained xs a.0 a.1) (has_contained xs own.0 own.1) of (of_name q own.0 own.2 refl refl) in
          absurd (true≢false (sym ((bytes_eq-Decides (wire (Request p)) (wire (Request q))).1 (sym a.2.text ∙ texts ∙ own.2.text)) ∙ not_true _ parts.1))
    ]

    disputed_there : differs q.by (pos q.no) xs ≡ is_disputed ms (Request q)
    disputed_there =
        both_or_none (differs q.by (pos q.no) xs) (is_disputed ms (Request q)) two_requests
        (λ some. let it = some_has (is_other (Request q)) ms some in other_there it.0 it.1 it.2)

  pub disputes_by : IsSorted asked_cmp xs → (found disputed : List NameKey)
      → ((asker : List ℕ) (number : ℤ) → list_any (is_at asker number) found ≡ differs asker number xs) → IsPermutation found disputed
      → (q : RequestFields) → Contains ms (Request q) → list_any (is_at q.by (pos q.no)) disputed ≡ is_disputed ms (Request q)
  disputes_by sorted found disputed each same q here =
      sym (list_any-IsPermutation (is_at q.by (pos q.no)) found disputed same) ∙ each q.by (pos q.no) ∙ disputed_there sorted q here

-- ---- what is looked up

module _ (ms : List Message) (names disputed : List NameKey) (index : IsIndex ms names disputed) where
  pub disputed_of : (m : Message) → Contains ms m → (a : Asked) → IsTold m (Some a) → list_any (is_at a.name.by.now a.name.number) disputed ≡ is_disputed ms m
  disputed_of (Verdict v) there a from = absurd from
  disputed_of (Request q) there a from = (λ i. list_any (is_at (from.by i) (from.number i)) disputed) ∙ index.disputes q there

pub none_disputed : (ms : List Message) (m : Message) → IsTold m None → false ≡ is_disputed ms m
none_disputed ms (Request q) none = absurd none
none_disputed ms (Verdict v) none = nobody ms
  where
    nobody : (l : List Message) → false ≡ list_any (is_other (Verdict v)) l
    nobody [] = refl
    nobody (m ∷ l) = nobody l
