-- The first of the marks that pass.
use Rattle.std.proofs.Common.{◌≡◌, ◌≤◌, ◌⊎◌, Bool, true, false, ◌&&◌, ◌||◌, List, [], ◌∷◌, map, Option, Some, None, refl, sym, ap, ◌∙◌, subst, inl, inr, arith}
use Rattle.std.specs.List.{Contains, list_any}
use Rattle.std.proofs.lemmas.Bool.{cases_Bool, cond-true, cond-false, both_ways, and_parts, and_cases, ltb-true, ltb-false}
use Rattle.grants.specs.declared.marks.Mark.{Mark}
use Rattle.grants.specs.private.Firsts.{is_sooner, earliest_from, earliest_of}
use Rattle.grants.proofs.MemberCases.{nothing_there, cases_behind}
use Rattle.grants.proofs.Members.{Contains-head, Contains-behind}

-- one of the marks that pass, and none of them is earlier
pub record IsFirst (test : Mark → Bool) (marks : List Mark) (first : Mark) : Type 0 where
  pub among : Contains marks first
  pub passes : test first ≡ true
  pub least : (r : Mark) → Contains marks r → test r ≡ true → first.at ≤ r.at

-- the first mark that passes; or none, if no mark passes
abbrev pub IsEarliest : (Mark → Bool) → List Mark → Option Mark → Type 0
IsEarliest test marks None = (r : Mark) → Contains marks r → test r ≡ true → ⊥
IsEarliest test marks (Some first) = IsFirst test marks first

-- what is found if the search begins with a mark
record FromMark (test : Mark → Bool) (start : Mark) (marks : List Mark) : Type 0 where
  first : Mark
  is : earliest_from (Some start) test marks ≡ Some first
  either : (start ≡ first) ⊎ (Contains marks first × (test first ≡ true))
  low : first.at ≤ start.at
  least : (r : Mark) → Contains marks r → test r ≡ true → first.at ≤ r.at

-- a mark that passes, but not as a sooner one, is no earlier
no_earlier : (test : Mark → Bool) (start r : Mark) → (is_sooner r (Some start) && test r) ≡ false → test r ≡ true → start.at ≤ r.at
no_earlier test start r e t =
    elim (and_cases (is_sooner r (Some start)) (test r) e) as (λ _. start.at ≤ r.at) [
      | inl later ↦ ltb-false r.at start.at later
      | inr fails ↦ absurd (both_ways _ fails t)
    ]

from_mark : (test : Mark → Bool) (start : Mark) (marks : List Mark) → FromMark test start marks
from_mark test start [] =
    record { first = start; is = refl; either = inl refl; low = omega arith; least = λ r h t. absurd (nothing_there r h) }
from_mark test start (s ∷ rs) =
    elim (cases_Bool (is_sooner s (Some start) && test s)) as (λ _. FromMark test start (s ∷ rs)) [
      | inl e ↦
          let parts = and_parts (is_sooner s (Some start)) (test s) e in
          let rest = from_mark test s rs in
          record {
            first = rest.first;
            is = ap (λ (o : Option Mark). earliest_from o test rs) (cond-true _ (Some s) (Some start) e) ∙ rest.is;
            either = inr (elim rest.either as (λ _. Contains (s ∷ rs) rest.first × (test rest.first ≡ true)) [
              | inl same ↦ (subst (λ (m : Mark). Contains (s ∷ rs) m) same (Contains-head s rs), subst (λ (m : Mark). test m ≡ true) same parts.1)
              | inr there ↦ (Contains-behind s rs rest.first there.0, there.1)
            ]);
            low = omega (arith, rest.low, ltb-true s.at start.at parts.0);
            least = λ r h t. elim (cases_behind s rs r h) as (λ _. rest.first.at ≤ r.at) [
              | inl same ↦ subst (λ (m : Mark). rest.first.at ≤ m.at) same rest.low
              | inr there ↦ rest.least r there t
            ];
          }
      | inr e ↦
          let rest = from_mark test start rs in
          record {
            first = rest.first;
            is = ap (λ (o : Option Mark). earliest_from o test rs) (cond-false _ (Some s) (Some start) e) ∙ rest.is;
            either = elim rest.either as (λ _. (start ≡ rest.first) ⊎ (Contains (s ∷ rs) rest.first × (test rest.first ≡ true))) [
              | inl same ↦ inl same
              | inr there ↦ inr (Contains-behind s rs rest.first there.0, there.1)
            ];
            low = rest.low;
            least = λ r h t. elim (cases_behind s rs r h) as (λ _. rest.first.at ≤ r.at) [
              | inl same ↦
                  let low : start.at ≤ r.at =
                  subst (λ (m : Mark). start.at ≤ m.at) same (no_earlier test start s e (subst (λ (m : Mark). test m ≡ true) (sym same) t)) in
                  omega (arith, rest.low, low)
              | inr there ↦ rest.least r there t
            ];
          }
    ]

one_more : (test : Mark → Bool) (s : Mark) (rs : List Mark) (o : Option Mark) → test s ≡ false → IsEarliest test rs o → IsEarliest test (s ∷ rs) o
one_more test s rs None e none = λ r h t. elim (cases_behind s rs r h) as (λ _. ⊥) [
  | inl same ↦ both_ways _ e (subst (λ (m : Mark). test m ≡ true) (sym same) t)
  | inr there ↦ none r there t
]
one_more test s rs (Some first) e is = record {
  among = Contains-behind s rs first is.among;
  passes = is.passes;
  least = λ r h t. elim (cases_behind s rs r h) as (λ _. first.at ≤ r.at) [
    | inl same ↦ absurd (both_ways _ e (subst (λ (m : Mark). test m ≡ true) (sym same) t))
    | inr there ↦ is.least r there t
  ];
}

pub is_earliest : (test : Mark → Bool) (marks : List Mark) → IsEarliest test marks (earliest_of test marks)
is_earliest test [] = λ r h t. nothing_there r h
is_earliest test (s ∷ rs) =
    elim (cases_Bool (test s)) as (λ _. IsEarliest test (s ∷ rs) (earliest_of test (s ∷ rs))) [
      | inl e ↦
          let rest = from_mark test s rs in
          let is : earliest_of test (s ∷ rs) ≡ Some rest.first =
          ap (λ (o : Option Mark). earliest_from o test rs) (cond-true (test s) (Some s) None e) ∙ rest.is in
          let found : Contains (s ∷ rs) rest.first × (test rest.first ≡ true) =
          elim rest.either as (λ _. Contains (s ∷ rs) rest.first × (test rest.first ≡ true)) [
            | inl same ↦ (subst (λ (m : Mark). Contains (s ∷ rs) m) same (Contains-head s rs), subst (λ (m : Mark). test m ≡ true) same e)
            | inr there ↦ (Contains-behind s rs rest.first there.0, there.1)
          ] in
          subst (IsEarliest test (s ∷ rs)) (sym is) (record {
            among = found.0;
            passes = found.1;
            least = λ r h t. elim (cases_behind s rs r h) as (λ _. rest.first.at ≤ r.at) [
              | inl same ↦ subst (λ (m : Mark). rest.first.at ≤ m.at) same rest.low
              | inr there ↦ rest.least r there t
            ];
          })
      | inr e ↦
          let is : earliest_of test (s ∷ rs) ≡ earliest_of test rs =
          ap (λ (o : Option Mark). earliest_from o test rs) (cond-false (test s) (Some s) None e) in
          subst (IsEarliest test (s ∷ rs)) (sym is) (one_more test s rs (earliest_of test rs) e (is_earliest test rs))
    ]

-- a test of the images of a list's elements
pub any_shown : {A B : Type 0} (f : A → B) (p : B → Bool) (xs : List A) → list_any (λ x. p (f x)) xs ≡ list_any p (map f xs)
any_shown f p [] = refl
any_shown f p (x ∷ xs) = ap (λ (b : Bool). p (f x) || b) (any_shown f p xs)
