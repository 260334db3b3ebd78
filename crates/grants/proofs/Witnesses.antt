-- Inclusion of what commands reach.
use Rattle.std.proofs.Common.{◌≡◌, ℕ, ◌≤◌, take, true, false, ◌==◌, List, [], ◌∷◌, length, refl, sym, ap, subst, inl, inr, arith}
use Rattle.std.specs.Str.{bytes_eq}
use Rattle.std.specs.Cmp.Lexicographic.{pointwise}
use Rattle.std.proofs.lemmas.Bool.{cases_Bool, and_parts, and_from, and_left, and_right, and_cases, both_ways, ne_eqb, false_from_ne_true}
use Rattle.std.proofs.lemmas.List.{length-take}
use Rattle.std.proofs.lemmas.Slice.Eq.{bytes_eq-Decides, slice_eq-Decides}
use Rattle.sudo_words.proofs.PathLemmas.{dir_parts}
use Rattle.sudo_words.specs.Word.{is_dir_path}
use Rattle.sudo_words.specs.Command.{matches, allows, is_directly_in, IsLawful, IsArgRule}
use Rattle.sudo_words.specs.declared.cmnd.Cmnd.{Cmnd}
use Rattle.sudo_words.specs.declared.cmnd.Cmnd.TheVariants.{All, Path, Dir}
use Rattle.sudo_words.specs.declared.cmnd.ArgRule.{ArgRule}
use Rattle.sudo_words.specs.declared.cmnd.ArgRule.TheVariants.{Any, Empty, Exactly}
use Rattle.grants.specs.Reach.{AreArgs, LiesInside, ReachesBeyond, ReachesSomething}
use Rattle.grants.specs.private.Forms.{rule_inside, is_inside}

same_args : (a b : List (List ℕ)) → pointwise bytes_eq a b ≡ true → a ≡ b
same_args a b h = (slice_eq-Decides bytes_eq-Decides a b (pointwise bytes_eq a b) refl).0 h

pub args_same : (a : List (List ℕ)) → pointwise bytes_eq a a ≡ true
args_same a = (slice_eq-Decides bytes_eq-Decides a a (pointwise bytes_eq a a) refl).1 refl

same_bytes : (f g : List ℕ) → bytes_eq f g ≡ true → f ≡ g
same_bytes f g h = (bytes_eq-Decides f g).0 h

rule_sound : (r s : ArgRule) (args : List (List ℕ)) → rule_inside r s ≡ true → allows r args ≡ true → allows s args ≡ true
rule_sound r Any args e h = refl
rule_sound Any Empty args e h = absurd (both_ways _ refl e)
rule_sound Empty Empty args e h = h
rule_sound (Exactly a) Empty args e h = absurd (both_ways _ refl e)
rule_sound Any (Exactly b) args e h = absurd (both_ways _ refl e)
rule_sound Empty (Exactly b) args e h = absurd (both_ways _ refl e)
rule_sound (Exactly a) (Exactly b) args e h = subst (λ (x : List (List ℕ)). pointwise bytes_eq args x ≡ true) (same_args a b e) h

sound : (k c : Cmnd) (path : List ℕ) (args : List (List ℕ)) → is_inside k c ≡ true → matches k path args ≡ true → matches c path args ≡ true
sound k All path args e h = refl
sound All (Path g s) path args e h = absurd (both_ways _ refl e)
sound All (Dir d) path args e h = absurd (both_ways _ refl e)
sound (Path f r) (Path g s) path args e h =
    let parts = and_parts (bytes_eq f g) (rule_inside r s) e in
    let found = and_parts (bytes_eq path f) (allows r args) h in
    and_from (bytes_eq path g) _ (subst (λ (x : List ℕ). bytes_eq path x ≡ true) (same_bytes f g parts.0) found.0) (rule_sound r s args parts.1 found.1)
sound (Path f r) (Dir d) path args e h =
    let found = and_parts (bytes_eq path f) (allows r args) h in
    subst (λ (x : List ℕ). is_directly_in d x ≡ true) (sym (same_bytes path f found.0)) e
sound (Dir d) (Path g s) path args e h = absurd (both_ways _ refl e)
sound (Dir d) (Dir e) path args same h = subst (λ (x : List ℕ). is_directly_in x path ≡ true) (same_bytes d e same) h

pub inside : (k c : Cmnd) → is_inside k c ≡ true → LiesInside k c
inside k c e path args r = record { path_is = r.path_is; args_are = r.args_are; matches_it = sound k c path args e r.matches_it }

-- ---- witnesses

-- the arguments of a witness
abbrev AreFewArgs : List (List ℕ) → Type 0
AreFewArgs args = AreArgs args × (length args ≤ 64)

record RuleBeyond (r s : ArgRule) : Type 0 where
  args : List (List ℕ)
  are : AreFewArgs args
  allowed : allows r args ≡ true
  not_allowed : allows s args ≡ false

none_wanted : (b : List (List ℕ)) → 1 ≤ length b → pointwise bytes_eq [] b ≡ false
none_wanted [] h = absurd (omega (arith, h))
none_wanted (x ∷ b) h = refl

pub listed : (a : List (List ℕ)) → IsArgRule (Exactly a) → AreFewArgs a
listed a h = (h.0, omega (arith, h.2))

rule_beyond : (r s : ArgRule) → IsArgRule r → IsArgRule s → rule_inside r s ≡ false → RuleBeyond r s
rule_beyond r Any hr hs e = absurd (both_ways _ e refl)
rule_beyond Any Empty hr hs e = record { args = (97 ∷ []) ∷ []; are = ((refl, tt), omega arith); allowed = refl; not_allowed = refl }
rule_beyond Empty Empty hr hs e = absurd (both_ways _ e refl)
rule_beyond (Exactly a) Empty hr hs e = record {
  args = a;
  are = listed a hr;
  allowed = args_same a;
  not_allowed = ne_eqb (length a) 0 (λ z. omega (arith, z, hr.1));
}
rule_beyond Any (Exactly b) hr hs e = record { args = []; are = (tt, omega arith); allowed = refl; not_allowed = none_wanted b hs.1 }
rule_beyond Empty (Exactly b) hr hs e = record { args = []; are = (tt, omega arith); allowed = refl; not_allowed = none_wanted b hs.1 }
rule_beyond (Exactly a) (Exactly b) hr hs e = record { args = a; are = listed a hr; allowed = args_same a; not_allowed = e }

abbrev some_args : (r : ArgRule) → IsArgRule r → (args : List (List ℕ)) × AreFewArgs args × (allows r args ≡ true)
some_args Any h = ([], (tt, omega arith), refl)
some_args Empty h = ([], (tt, omega arith), refl)
some_args (Exactly a) h = (a, listed a h, args_same a)

pub bytes_same : (w : List ℕ) → bytes_eq w w ≡ true
bytes_same w = (bytes_eq-Decides w w).1 refl

abbrev reaches_with : (f : List ℕ) (r : ArgRule) → IsLawful (Path f r) → (args : List (List ℕ))
    → AreFewArgs args → allows r args ≡ true → ReachesSomething (Path f r)
reaches_with f r hf args are allowed = record {
  path = f;
  args = args;
  few = are.1;
  reached = record { path_is = hf.head.0; args_are = are.0; matches_it = and_from (bytes_eq f f) _ (bytes_same f) allowed };
  plain = hf.head.2;
}

abbrev pub file_reaches : (f : List ℕ) (r : ArgRule) → IsLawful (Path f r) → ReachesSomething (Path f r)
file_reaches f r hf = let some = some_args r hf.args in reaches_with f r hf some.0 some.1 some.2

-- ALL reaches the file `/a`, and `/b`
abbrev pub all_reaches : ReachesSomething All
all_reaches = record { path = 47 ∷ 97 ∷ []; args = []; few = omega arith; reached = record { path_is = refl; args_are = tt; matches_it = refl }; plain = refl }

abbrev all_reaches_other : ReachesSomething All
all_reaches_other = record {
  path = 47 ∷ 98 ∷ [];
  args = [];
  few = omega arith;
  reached = record { path_is = refl; args_are = tt; matches_it = refl };
  plain = refl;
}

pub beyond_file : (f g : List ℕ) (r s : ArgRule) → IsLawful (Path f r) → IsLawful (Path g s)
    → is_inside (Path f r) (Path g s) ≡ false → ReachesBeyond (Path f r) (Path g s)
beyond_file f g r s hf hg e =
    elim (and_cases (bytes_eq f g) (rule_inside r s) e) as (λ _. ReachesBeyond (Path f r) (Path g s)) [
      | inl differ ↦ record { something = file_reaches f r hf; not_matched = and_left (bytes_eq f g) _ differ }
      | inr few ↦
          let beyond = rule_beyond r s hf.args hg.args few in
          record { something = reaches_with f r hf beyond.args beyond.are beyond.allowed; not_matched = and_right (bytes_eq f g) _ beyond.not_allowed }
    ]

-- a file and a directory
pub beyond_dir : (f d : List ℕ) (r : ArgRule) → IsLawful (Path f r) → is_inside (Path f r) (Dir d) ≡ false → ReachesBeyond (Path f r) (Dir d)
beyond_dir f d r hf e = record { something = file_reaches f r hf; not_matched = e }

-- ALL and a file: of two files, at least one is a different file
pub all_beyond_file : (g : List ℕ) (s : ArgRule) → ReachesBeyond All (Path g s)
all_beyond_file g s =
    elim (cases_Bool (bytes_eq (47 ∷ 97 ∷ []) g)) as (λ _. ReachesBeyond All (Path g s)) [
      | inl same ↦
          let other : bytes_eq (47 ∷ 98 ∷ []) g ≡ false = subst (λ (x : List ℕ). bytes_eq (47 ∷ 98 ∷ []) x ≡ false) (same_bytes (47 ∷ 97 ∷ []) g same) refl in
          record { something = all_reaches_other; not_matched = and_left _ _ other }
      | inr differ ↦ record { something = all_reaches; not_matched = and_left _ _ differ }
    ]

-- a directory's text has at least three bytes
dir_long : (d : List ℕ) → is_dir_path d ≡ true → 3 ≤ length d
dir_long [] h = absurd (both_ways _ refl h)
dir_long (a ∷ []) h = absurd (both_ways _ refl (dir_parts (a ∷ []) h).1)
dir_long (a ∷ b ∷ []) h = absurd (both_ways _ refl (and_parts (a == 47) false (dir_parts (a ∷ b ∷ []) h).1).1)
dir_long (a ∷ b ∷ c ∷ d) h = omega arith

-- ALL and a directory: a file whose path has two bytes is in no directory
pub all_beyond_dir : (d : List ℕ) → IsLawful (Dir d) → ReachesBeyond All (Dir d)
all_beyond_dir d hd =
    let long : 3 ≤ length d = dir_long d hd.head.0 in
    let apart : bytes_eq (take (length d) (47 ∷ 97 ∷ [])) d ≡ false =
    false_from_ne_true _ (λ e.
    let same : length (take (length d) (47 ∷ 97 ∷ [])) ≡ length d = ap length (same_bytes (take (length d) (47 ∷ 97 ∷ [])) d e) in
    omega (arith, long, same, length-take {A = ℕ} (length d) (47 ∷ 97 ∷ []))) in
    record { something = all_reaches; not_matched = and_left _ _ apart }
