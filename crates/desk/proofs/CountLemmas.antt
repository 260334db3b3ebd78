-- How many messages a set has.
use Rattle.std.proofs.Common.{suc, ◌≡◌, ◌≢◌, ◌⊎◌, ℕ, ◌+◌, ◌≤◌, List, [], ◌∷◌, ◌++◌, length, AllPairs, get_or}
use Rattle.std.proofs.Common.{refl, sym, ap, ◌∙◌, subst, inl, inr, arith, length-append}
use Rattle.std.specs.Prelude.{Contains, Option, Some, None}
use Rattle.std.specs.Option.{SomeIff}
use Rattle.std.proofs.lemmas.List.Elements.{Contains-append_cases, Contains-append_left, Contains-get_or, Contains-push}
use Rattle.std.proofs.lemmas.List.Kept.{AllPairs-cons}
use Rattle.std.proofs.lemmas.List.Quantifiers.{all_pairs_push}
use Rattle.messages.specs.Names.{SameMessages}
use Rattle.messages.specs.Order.{AllAfter, AreInOrder, TextPrecedes}
use Rattle.messages.specs.Wire.{IsMessage, wire}
use Rattle.messages.specs.declared.message.Message.{Message}
use Rattle.messages.proofs.NameOrder.{texts_strict}
use Rattle.messages.proofs.Uniqueness.{one_message}
use Rattle.outcomes.proofs.Membership.{no_member, Contains-head, Contains-behind, Contains-cases}
use Rattle.desk.specs.Count.{IsCount}
use Rattle.desk.specs.private.Known.{IsCounted}
use Rattle.desk.specs.Texts.{AreTexts}

-- ---- lists without repeats

module _ {X : Type 0} where
  abbrev Once : List X → Type 0
  Once xs = AllPairs (λ x y. x ≢ y) xs

  once_rest : (x : X) (xs : List X) → Once (x ∷ xs) → Once xs
  once_rest x xs h i j d lt within = h (suc i) (suc j) d (omega (arith, lt)) (omega (arith, within))

  once_head : (x : X) (xs : List X) → Once (x ∷ xs) → (y : X) → Contains xs y → x ≢ y
  once_head x xs h y (k, within, at) same = h 0 (suc k) y (omega arith) (omega (arith, within)) (same ∙ sym at)

  once_more : (x : X) (xs : List X) → ((y : X) → Contains xs y → x ≢ y) → Once xs → Once (x ∷ xs)
  once_more x xs differs h = AllPairs-cons (λ a b. a ≢ b) x xs (λ k d within. differs (get_or xs k d) (Contains-get_or xs k d within)) h

  -- a list without one place of an element
  without : (x : X) (ys : List X) → Contains ys x
      → (rest : List X) × (length ys ≡ length rest + 1) × ((z : X) → Contains ys z → (x ≡ z) ⊎ Contains rest z)
  without x [] h = absurd (no_member x h)
  without x (y ∷ ys) h =
      elim (Contains-cases y ys x h)
      as (λ _. (rest : List X) × (length (y ∷ ys) ≡ length rest + 1) × ((z : X) → Contains (y ∷ ys) z → (x ≡ z) ⊎ Contains rest z)) [
        | inl here ↦ (
          ys,
          (let e : length (y ∷ ys) ≡ length ys + 1 = omega arith in e),
          λ z among. elim (Contains-cases y ys z among) as (λ _. (x ≡ z) ⊎ Contains ys z) [ inl same ↦ inl (sym here ∙ same) | inr later ↦ inr later ],
        )
        | inr there ↦
            let less = without x ys there in (
              y ∷ less.0,
              (let e : length (y ∷ ys) ≡ length (y ∷ less.0) + 1 = omega (arith, less.1) in e),
              λ z among. elim (Contains-cases y ys z among) as (λ _. (x ≡ z) ⊎ Contains (y ∷ less.0) z) [
                | inl same ↦ inr (subst (λ (w : X). Contains (y ∷ less.0) w) same (Contains-head y less.0))
                | inr later ↦ elim (less.2 z later)
                    as (λ _. (x ≡ z) ⊎ Contains (y ∷ less.0) z) [ inl e ↦ inl e | inr left ↦ inr (Contains-behind y less.0 z left) ]
              ],
            )
      ]

  -- so a list without repeats is no longer than one that has its elements
  fits : (xs ys : List X) → Once xs → ((z : X) → Contains xs z → Contains ys z) → length xs ≤ length ys
  fits [] ys once among = omega arith
  fits (x ∷ xs) ys once among =
      let less = without x ys (among x (Contains-head x xs)) in
      let inside : (z : X) → Contains xs z → Contains less.0 z = λ z h.
      elim (less.2 z (among z (Contains-behind x xs z h))) as (λ _. Contains less.0 z) [ inl same ↦ absurd (once_head x xs once z h same) | inr left ↦ left ] in
      let shorter = fits xs less.0 (once_rest x xs once) inside in
      omega (arith, less.1, shorter)

-- ---- one count

pub one_count : (s t : List Message) (m n : ℕ) → SameMessages s t → IsCount s m → IsCount t n → m ≡ n
one_count s t m n same x y =
    let below : length x.each ≤ length y.each = fits x.each y.each x.once (λ z h. (y.same z).0 ((same z).0 ((x.same z).1 h))) in
    let above : length y.each ≤ length x.each = fits y.each x.each y.once (λ z h. (x.same z).0 ((same z).1 ((y.same z).1 h))) in
    let e : length x.each ≡ length y.each = omega (arith, below, above) in
    sym x.counted ∙ e ∙ y.counted

pub count_of_set : (s t : List Message) (n : ℕ) → SameMessages s t → IsCount s n → IsCount t n
count_of_set s t n same x = record {
  each = x.each;
  same = λ m. (λ h. (x.same m).0 ((same m).1 h), λ h. (same m).0 ((x.same m).1 h));
  once = x.once;
  counted = x.counted;
}

-- ---- as many as texts

-- the messages of texts, in the order of the texts
record AreOf (set : List Message) (texts : List (List ℕ)) : Type 0 where
  list : List Message
  long : length list ≡ length texts
  only : (m : Message) → Contains list m → Contains set m × Contains texts (wire m)
  all : (text : List ℕ) → Contains texts text → (m : Message) × Contains list m × (text ≡ wire m)
  once : Once list

after : (text : List ℕ) (texts : List (List ℕ)) → AllAfter TextPrecedes text texts → (later : List ℕ) → Contains texts later → TextPrecedes text later
after text [] h later in_it = absurd (no_member later in_it)
after text (t ∷ texts) h later in_it =
    elim (Contains-cases t texts later in_it) as (λ _. TextPrecedes text later) [
      | inl here ↦ subst (TextPrecedes text) here h.0
      | inr there ↦ after text texts h.1 later there
    ]

of_texts : (set : List Message) (texts : List (List ℕ)) → AreInOrder TextPrecedes texts
    → ((text : List ℕ) → Contains texts text → (m : Message) × Contains set m × (text ≡ wire m)) → AreOf set texts
of_texts set [] ordered each = record {
  list = [];
  long = refl;
  only = λ m h. absurd (no_member m h);
  all = λ text h. absurd (no_member text h);
  once = λ i j d lt within. absurd (omega (arith, within));
}
of_texts set (text ∷ texts) ordered each =
    let rest = of_texts set texts ordered.1 (λ t h. each t (Contains-behind text texts t h)) in
    let first = each text (Contains-head text texts) in
    let m = first.0 in
    record {
      list = m ∷ rest.list;
      long = (let e : length (m ∷ rest.list) ≡ length (text ∷ texts) = omega (arith, rest.long) in e);
      only = λ n h. elim (Contains-cases m rest.list n h) as (λ _. Contains set n × Contains (text ∷ texts) (wire n)) [
        | inl same ↦ (
          subst (Contains set) same first.1,
          subst (Contains (text ∷ texts)) (first.2 ∙ ap wire same) (Contains-head text texts),
        )
        | inr later ↦ let found = rest.only n later in (found.0, Contains-behind text texts (wire n) found.1)
      ];
      all = λ t h. elim (Contains-cases text texts t h) as (λ _. (n : Message) × Contains (m ∷ rest.list) n × (t ≡ wire n)) [
        | inl same ↦ (m, Contains-head m rest.list, sym same ∙ first.2)
        | inr later ↦ let found = rest.all t later in (found.0, Contains-behind m rest.list found.0 found.1, found.2)
      ];
      once = once_more m rest.list (λ n h same.
          let before = after text texts ordered.0 (wire n) (rest.only n h).1 in
          let itself : TextPrecedes text text = subst (TextPrecedes text) (ap wire (sym same) ∙ sym first.2) before in
          texts_strict text text itself itself) rest.once;
    }

pub count_of_texts : (set : List Message) (texts : List (List ℕ)) → ((m : Message) → Contains set m → IsMessage m)
    → AreTexts set texts → IsCount set (length texts)
count_of_texts set texts known are =
    let found = of_texts set texts are.in_order are.each in
    let inside : (m : Message) → Contains set m → Contains found.list m = λ m h.
    let other = found.all (wire m) (are.all m h) in
    subst (Contains found.list) (sym (one_message m other.0 (known m h) (known other.0 (found.only other.0 other.1).0) other.2)) other.1 in
    record {
      each = found.list;
      same = λ m. (inside m, λ h. (found.only m h).0);
      once = found.once;
      counted = found.long;
    }

-- ---- one more

pub none_counted : IsCount [] 0
none_counted = record { each = []; same = λ m. (λ h. h, λ h. h); once = λ i j d lt within. absurd (omega (arith, within)); counted = refl }

push_cases : (xs : List Message) (x y : Message) → Contains (xs ++ x ∷ []) y → Contains xs y ⊎ (x ≡ y)
push_cases xs x y h =
    elim (Contains-append_cases xs (x ∷ []) y h) as (λ _. Contains xs y ⊎ (x ≡ y)) [
      | inl old ↦ inl old
      | inr new ↦ elim (Contains-cases x [] y new) as (λ _. Contains xs y ⊎ (x ≡ y)) [ inl same ↦ inr same | inr none ↦ absurd (no_member y none) ]
    ]

more : (s t : List Message) (m n : Message) → ((k : Message) → Contains s k → Contains t k) → Contains (s ++ m ∷ []) n → Contains (t ++ m ∷ []) n
more s t m n inside h =
    elim (push_cases s m n h) as (λ _. Contains (t ++ m ∷ []) n) [
      | inl old ↦ Contains-append_left t (m ∷ []) n (inside n old)
      | inr same ↦ subst (Contains (t ++ m ∷ [])) same (Contains-push t m)
    ]

pub new_counted : (set : List Message) (m : Message) (n : ℕ) → ¬ Contains set m → IsCount set n → IsCount (set ++ m ∷ []) (n + 1)
new_counted set m n lacks x = record {
  each = x.each ++ m ∷ [];
  same = λ k. (more set x.each m k (λ z h. (x.same z).0 h), more x.each set m k (λ z h. (x.same z).1 h));
  once = all_pairs_push (λ a b. a ≢ b) x.each m x.once (λ k d within same.
      lacks ((x.same m).1 (subst (Contains x.each) same (Contains-get_or x.each k d within))));
  counted = length-append x.each (m ∷ []) ∙ ap (λ (k : ℕ). k + 1) x.counted;
}

pub held_counted : (set : List Message) (m : Message) (n : ℕ) → Contains set m → IsCount set n → IsCount (set ++ m ∷ []) n
held_counted set m n has x =
    count_of_set set (set ++ m ∷ []) n
    (λ k. (
      λ h. Contains-append_left set (m ∷ []) k h,
      λ h. elim (push_cases set m k h) as (λ _. Contains set k) [ inl old ↦ old | inr same ↦ subst (Contains set) same has ],
    )) x

-- the sum that was looked for counts one more, if it is a number
pub sum_counted : (sum : Option ℕ) (Fits : Type 0) (set : List Message) (m : Message) (n : ℕ) → SomeIff sum Fits (n + 1)
    → ¬ Contains set m → IsCount set n → IsCounted (set ++ m ∷ []) sum
sum_counted None Fits set m n is lacks counted = tt
sum_counted (Some k) Fits set m n is lacks counted = subst (IsCount (set ++ m ∷ [])) (sym is.1) (new_counted set m n lacks counted)
