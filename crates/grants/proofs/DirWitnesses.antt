-- What a directory reaches beyond a file, and beyond another directory.
use Rattle.std.proofs.Common.{◌≡◌, ◌≢◌, ℕ, ◌-◌, true, false, List, [], ◌∷◌, ◌++◌, length, take, drop}
use Rattle.std.proofs.Common.{reverse, refl, sym, ap, ◌∙◌, subst, inl, inr, arith, append_assoc}
use Rattle.std.specs.Prelude.{codes}
use Rattle.std.specs.List.{list_all}
use Rattle.std.specs.Str.{bytes_eq}
use Rattle.std.proofs.Math.Seq.{take-append_seam, drop-length}
use Rattle.std.proofs.lemmas.Bool.{cases_Bool, and_parts, and_from, and_left, both_ways, le-leb, false_from_ne_true}
use Rattle.std.proofs.lemmas.List.{drop-append-le, take-append-drop, length-append, reverse-append}
use Rattle.std.proofs.lemmas.Slice.Eq.{bytes_eq-Decides}
use Rattle.sudo_words.proofs.PathLemmas.{dir_parts, slash_end}
use Rattle.sudo_words.proofs.NameLemmas.{sudoedit_end}
use Rattle.sudo_words.specs.Word.{is_component, are_components, is_absolute, is_file_path, is_dir_path, is_path_byte, is_sudoedit}
use Rattle.sudo_words.specs.Command.{is_directly_in, IsLawful}
use Rattle.sudo_words.specs.declared.cmnd.Cmnd.TheVariants.{Path, Dir}
use Rattle.sudo_words.specs.declared.cmnd.ArgRule.{ArgRule}
use Rattle.grants.specs.Reach.{ReachesBeyond, ReachesSomething}
use Rattle.grants.specs.private.Forms.{is_inside}
use Rattle.grants.proofs.DirLemmas.{absolute_joined}

pub same_bytes : (f g : List ℕ) → bytes_eq f g ≡ true → f ≡ g
same_bytes f g h = (bytes_eq-Decides f g).0 h

pub split_dir : (d : List ℕ) → is_dir_path d ≡ true → (x : List ℕ) × (d ≡ x ++ 47 ∷ []) × (is_absolute x ≡ true)
split_dir d h = let parts = dir_parts d h in (take (length d - 1) d, slash_end d parts.0, parts.1)

pub drop_front : (d w : List ℕ) → drop (length d) (d ++ w) ≡ w
drop_front d w = drop-append-le (length d) d w (omega arith) ∙ ap (λ (z : List ℕ). z ++ w) (drop-length d)

pub file_in : (d w : List ℕ) → IsLawful (Dir d) → are_components w ≡ true → length w ≡ 1 → is_file_path (d ++ w) ≡ true
file_in d w hd comps one =
    let s = split_dir d hd.head.0 in
    let at : d ++ w ≡ s.0 ++ 47 ∷ w = ap (λ (z : List ℕ). z ++ w) s.1 ∙ append_assoc s.0 (47 ∷ []) w in
    and_from (is_absolute (d ++ w)) _
    (ap is_absolute at ∙ absolute_joined s.0 w s.2 comps)
    (le-leb (length (d ++ w)) 4096 (omega (arith, length-append d w, one, hd.head.1)))

pub within : (d w : List ℕ) → is_component w ≡ true → is_directly_in d (d ++ w) ≡ true
within d w h =
    and_from (bytes_eq (take (length d) (d ++ w)) d) _ ((bytes_eq-Decides (take (length d) (d ++ w)) d).1 (take-append_seam d w))
    (ap is_component (drop_front d w) ∙ h)

head_apart : (a b : ℕ) (xs ys : List ℕ) → a ∷ xs ≡ b ∷ ys → a ≡ b
head_apart a b xs ys e = cc

-- a path that ends in another byte is not sudo's own command
pub plain_end : (d : List ℕ) (b : ℕ) → b ≢ 116 → is_sudoedit (d ++ b ∷ []) ≡ false
plain_end d b other =
    false_from_ne_true _ (λ h.
    let found = (sudoedit_end (d ++ b ∷ [])).0 h in
    let turned : b ∷ reverse d ≡ reverse (codes "/sudoedit") ++ reverse found.0 =
    sym (reverse-append d (b ∷ [])) ∙ ap reverse found.1 ∙ reverse-append found.0 (codes "/sudoedit") in
    other (head_apart b 116 (reverse d) (reverse (codes "/sudoedi") ++ reverse found.0) turned))

abbrev reaches : (d : List ℕ) (b : ℕ) → IsLawful (Dir d) → are_components (b ∷ []) ≡ true → is_component (b ∷ []) ≡ true → b ≢ 116 → ReachesSomething (Dir d)
reaches d b hd comps comp other = record {
  path = d ++ b ∷ [];
  args = [];
  few = omega arith;
  reached = record { path_is = file_in d (b ∷ []) hd comps refl; args_are = tt; matches_it = within d (b ∷ []) comp };
  plain = plain_end d b other;
}

abbrev pub dir_reaches : (d : List ℕ) → IsLawful (Dir d) → ReachesSomething (Dir d)
dir_reaches d hd = reaches d 97 hd refl refl (λ e. omega (arith, e))

pub dir_beyond_file : (d g : List ℕ) (s : ArgRule) → IsLawful (Dir d) → ReachesBeyond (Dir d) (Path g s)
dir_beyond_file d g s hd =
    elim (cases_Bool (bytes_eq (d ++ 97 ∷ []) g)) as (λ _. ReachesBeyond (Dir d) (Path g s)) [
      | inl same ↦
          let other : bytes_eq (d ++ 98 ∷ []) g ≡ false =
          false_from_ne_true _ (λ e.
          let both : d ++ 98 ∷ [] ≡ d ++ 97 ∷ [] = same_bytes (d ++ 98 ∷ []) g e ∙ sym (same_bytes (d ++ 97 ∷ []) g same) in
          let tails : ◌≡◌ {A = List ℕ} (98 ∷ []) (97 ∷ []) = sym (drop_front d (98 ∷ [])) ∙ ap (drop (length d)) both ∙ drop_front d (97 ∷ []) in
          both_ways (bytes_eq (98 ∷ []) (97 ∷ [])) refl ((bytes_eq-Decides (98 ∷ []) (97 ∷ [])).1 tails)) in
          record { something = reaches d 98 hd refl refl (λ e. omega (arith, e)); not_matched = and_left (bytes_eq (d ++ 98 ∷ []) g) _ other }
      | inr differ ↦ record { something = dir_reaches d hd; not_matched = and_left (bytes_eq (d ++ 97 ∷ []) g) _ differ }
    ]

-- ---- the last slash of a path

no_slash_in : (ys w : List ℕ) → list_all is_path_byte (ys ++ 47 ∷ w) ≡ true → ⊥
no_slash_in [] w h = both_ways _ refl (and_parts false (list_all is_path_byte w) h).0
no_slash_in (y ∷ ys) w h = no_slash_in ys w (and_parts (is_path_byte y) (list_all is_path_byte (ys ++ 47 ∷ w)) h).1

tail_same : (a b : ℕ) (xs ys : List ℕ) → a ∷ xs ≡ b ∷ ys → xs ≡ ys
tail_same a b xs ys e = cc

head_same : (a b : ℕ) (xs ys : List ℕ) → a ∷ xs ≡ b ∷ ys → a ≡ b
head_same a b xs ys e = cc

pub last_slash : (x y v w : List ℕ) → x ++ 47 ∷ v ≡ y ++ 47 ∷ w → list_all is_path_byte v ≡ true → list_all is_path_byte w ≡ true → x ≡ y
last_slash [] [] v w e hv hw = refl
last_slash [] (b ∷ ys) v w e hv hw =
    absurd (no_slash_in ys w (subst (λ (z : List ℕ). list_all is_path_byte z ≡ true) (tail_same 47 b v (ys ++ 47 ∷ w) e) hv))
last_slash (a ∷ xs) [] v w e hv hw =
    absurd (no_slash_in xs v (subst (λ (z : List ℕ). list_all is_path_byte z ≡ true) (sym (tail_same a 47 (xs ++ 47 ∷ v) w e)) hw))
last_slash (a ∷ xs) (b ∷ ys) v w e hv hw =
    let head : a ≡ b = head_same a b (xs ++ 47 ∷ v) (ys ++ 47 ∷ w) e in
    let rest : xs ≡ ys = last_slash xs ys v w (tail_same a b (xs ++ 47 ∷ v) (ys ++ 47 ∷ w) e) hv hw in
    cc

pub bytes_of : (w : List ℕ) → is_component w ≡ true → list_all is_path_byte w ≡ true
bytes_of w h = grind (arith, and_parts)

one_dir : (d e : List ℕ) → is_dir_path d ≡ true → is_dir_path e ≡ true → is_directly_in e (d ++ 97 ∷ []) ≡ true → d ≡ e
one_dir d e hd he h =
    let p = d ++ 97 ∷ [] in
    let x = split_dir d hd in
    let y = split_dir e he in
    let w = drop (length e) p in
    let parts = and_parts (bytes_eq (take (length e) p) e) (is_component w) h in
    let whole : p ≡ e ++ w = sym (take-append-drop (length e) p) ∙ ap (λ (z : List ℕ). z ++ w) (same_bytes (take (length e) p) e parts.0) in
    let left : p ≡ x.0 ++ 47 ∷ 97 ∷ [] = ap (λ (z : List ℕ). z ++ 97 ∷ []) x.1 ∙ append_assoc x.0 (47 ∷ []) (97 ∷ []) in
    let right : e ++ w ≡ y.0 ++ 47 ∷ w = ap (λ (z : List ℕ). z ++ w) y.1 ∙ append_assoc y.0 (47 ∷ []) w in
    let stems : x.0 ≡ y.0 = last_slash x.0 y.0 (97 ∷ []) w (sym left ∙ whole ∙ right) refl (bytes_of w parts.1) in
    x.1 ∙ ap (λ (z : List ℕ). z ++ 47 ∷ []) stems ∙ sym y.1

pub dir_beyond_dir : (d e : List ℕ) → IsLawful (Dir d) → IsLawful (Dir e) → is_inside (Dir d) (Dir e) ≡ false → ReachesBeyond (Dir d) (Dir e)
dir_beyond_dir d e hd he differ = record {
  something = dir_reaches d hd;
  not_matched = false_from_ne_true _ (λ h. both_ways _ differ ((bytes_eq-Decides d e).1 (one_dir d e hd.head.0 he.head.0 h)));
}
