-- Paths: which bytes they have, and that no file has the path of a directory.
use Rattle.std.proofs.Common.{◌≡◌, ℕ, ◌-◌, ◌<◌, true, false, eqb, leb, not, ◌&&◌, List, [], ◌∷◌}
use Rattle.std.proofs.Common.{◌++◌, length, take, drop, refl, sym, ap, subst, ◌∙◌, inl, inr, arith}
use Rattle.std.specs.Prelude.{codes}
use Rattle.std.specs.Str.{bytes_eq}
use Rattle.std.specs.List.{AllByRecursion, list_all, slice_split, onto_first}
use Rattle.std.proofs.lemmas.Bool.{and_parts, and_from, and_right, cases_Bool, false≢true, eqb-true}
use Rattle.std.proofs.Math.Seq.{take-append_seam, drop-append_seam}
use Rattle.std.proofs.lemmas.List.{take-append-drop}
use Rattle.std.proofs.lemmas.List.Folds.{list_all-append}
use Rattle.std.proofs.lemmas.List.Splits.{slice_split-cons_yes, slice_split-cons_no, length-slice_split}
use Rattle.std.proofs.lemmas.Slice.Eq.{bytes_eq-Decides}
use Rattle.sudo_words.specs.Command.{is_directly_in}
use Rattle.sudo_words.specs.Word.{is_path_byte, is_component, is_dots, are_components, is_absolute, is_file_path, is_dir_path}

-- ---- the bytes of a path

parts_bytes : (parts : List (List ℕ)) → list_all is_component parts ≡ true → list_all (list_all is_path_byte) parts ≡ true
parts_bytes [] h = refl
parts_bytes (part ∷ parts) h =
    let both = and_parts (is_component part) (list_all is_component parts) h in
    let shape = and_parts (leb 1 (length part) && list_all is_path_byte part) (not (is_dots part)) both.0 in
    let bytes = and_parts (leb 1 (length part)) (list_all is_path_byte part) shape.0 in
    and_from (list_all is_path_byte part) (list_all (list_all is_path_byte) parts) bytes.1 (parts_bytes parts both.1)

onto_bytes : (x : ℕ) (parts : List (List ℕ)) → list_all (list_all is_path_byte) (onto_first x parts) ≡ true
    → (is_path_byte x ≡ true) × (list_all (list_all is_path_byte) parts ≡ true)
onto_bytes x [] h = let all = and_parts (is_path_byte x && true) true h in ((and_parts (is_path_byte x) true all.0).0, refl)
onto_bytes x (part ∷ parts) h =
    let all = and_parts (is_path_byte x && list_all is_path_byte part) (list_all (list_all is_path_byte) parts) h in
    let first = and_parts (is_path_byte x) (list_all is_path_byte part) all.0 in
    (first.0, and_from (list_all is_path_byte part) (list_all (list_all is_path_byte) parts) first.1 all.1)

-- what holds of a slash and of each byte of a component holds of each byte of a path
module _ (P : ℕ → Type 0) (slash : P 47) (byte : (b : ℕ) → is_path_byte b ≡ true → P b) where
  at_slash : (b : ℕ) → eqb b 47 ≡ true → P b
  at_slash b e = subst P (sym (eqb-true b 47 e)) slash

  split_each : (w : List ℕ) → list_all (list_all is_path_byte) (slice_split (λ b. eqb b 47) w) ≡ true → AllByRecursion P w
  split_each [] h = tt
  split_each (b ∷ bs) h =
      elim (cases_Bool (eqb b 47)) [
        | inl holds ↦ let parts = rw (slice_split-cons_yes (λ (x : ℕ). eqb x 47) b bs holds) at h in (at_slash b holds, split_each bs parts)
        | inr fails ↦
            let parts = onto_bytes b (slice_split (λ (x : ℕ). eqb x 47) bs) (rw (slice_split-cons_no (λ (x : ℕ). eqb x 47) b bs fails) at h) in
            (byte b parts.0, split_each bs parts.1)
      ]

  pub absolute_each : (w : List ℕ) → is_absolute w ≡ true → AllByRecursion P w
  absolute_each [] h = tt
  absolute_each (b ∷ bs) h =
      let both = and_parts (eqb b 47) (are_components bs) h in
      (at_slash b both.0, split_each bs (parts_bytes (slice_split (λ (x : ℕ). eqb x 47) bs) both.1))

  pub file_each : (w : List ℕ) → is_file_path w ≡ true → AllByRecursion P w
  file_each w h = absolute_each w (and_parts (is_absolute w) (leb (length w) 4096) h).0

  append_slash : (w : List ℕ) → AllByRecursion P w → AllByRecursion P (w ++ 47 ∷ [])
  append_slash [] h = (slash, tt)
  append_slash (b ∷ bs) h = (h.0, append_slash bs h.1)

-- ---- directories

-- a path without its last byte, where that is a slash
pub slash_end : (w : List ℕ) → bytes_eq (drop (length w - 1) w) (codes "/") ≡ true → w ≡ take (length w - 1) w ++ codes "/"
slash_end w h =
    let last : drop (length w - 1) w ≡ codes "/" = (bytes_eq-Decides (drop (length w - 1) w) (codes "/")).0 h in
    sym (take-append-drop (length w - 1) w) ∙ ap (λ (t : List ℕ). take (length w - 1) w ++ t) last

pub dir_parts : (w : List ℕ) → is_dir_path w ≡ true → (bytes_eq (drop (length w - 1) w) (codes "/") ≡ true) × (is_absolute (take (length w - 1) w) ≡ true)
dir_parts w h =
    let all = and_parts (bytes_eq (drop (length w - 1) w) (codes "/") && is_absolute (take (length w - 1) w)) (leb (length w) 4096) h in
    and_parts (bytes_eq (drop (length w - 1) w) (codes "/")) (is_absolute (take (length w - 1) w)) all.0

pub dir_each : (P : ℕ → Type 0) → P 47 → ((b : ℕ) → is_path_byte b ≡ true → P b) → (w : List ℕ) → is_dir_path w ≡ true → AllByRecursion P w
dir_each P slash byte w h =
    let parts = dir_parts w h in
    subst (AllByRecursion P) (sym (slash_end w parts.0))
    (append_slash P slash byte (take (length w - 1) w) (absolute_each P slash byte (take (length w - 1) w) parts.1))

onto_append : (x : ℕ) (parts more : List (List ℕ)) → 0 < length parts → onto_first x (parts ++ more) ≡ onto_first x parts ++ more
onto_append x [] more h = absurd (omega arith)
onto_append x (part ∷ parts) more h = refl

-- after a slash at the end comes an empty part
split_end : (w : List ℕ) → slice_split (λ b. eqb b 47) (w ++ 47 ∷ []) ≡ slice_split (λ b. eqb b 47) w ++ ([] ∷ [])
split_end [] = refl
split_end (b ∷ bs) =
    let at = λ (x : ℕ). eqb x 47 in
    elim (cases_Bool (eqb b 47)) [
      | inl holds ↦
          slice_split-cons_yes at b (bs ++ 47 ∷ []) holds ∙ ap (λ (parts : List (List ℕ)). [] ∷ parts) (split_end bs)
          ∙ ap (λ (parts : List (List ℕ)). parts ++ ([] ∷ [])) (sym (slice_split-cons_yes at b bs holds))
      | inr fails ↦
          slice_split-cons_no at b (bs ++ 47 ∷ []) fails ∙ ap (onto_first b) (split_end bs)
          ∙ onto_append b (slice_split at bs) ([] ∷ []) (omega (arith, length-slice_split at bs))
          ∙ ap (λ (parts : List (List ℕ)). parts ++ ([] ∷ [])) (sym (slice_split-cons_no at b bs fails))
    ]

no_slash_end : (front : List ℕ) → is_absolute (front ++ 47 ∷ []) ≡ false
no_slash_end [] = refl
no_slash_end (b ∷ bs) =
    let at = λ (x : ℕ). eqb x 47 in
    let parts : are_components (bs ++ 47 ∷ []) ≡ false =
    ap (list_all is_component) (split_end bs) ∙ list_all-append is_component (slice_split at bs) ([] ∷ [])
    ∙ and_right (list_all is_component (slice_split at bs)) false refl in
    and_right (eqb b 47) (are_components (bs ++ 47 ∷ [])) parts

-- a file's path does not end in a slash
pub no_slash_ended : (w : List ℕ) → bytes_eq (drop (length w - 1) w) (codes "/") ≡ true → is_file_path w ≡ true → ⊥
no_slash_ended w h path =
    let all = (and_parts (is_absolute w) (leb (length w) 4096) path).0 in
    false≢true (sym (no_slash_end (take (length w - 1) w)) ∙ ap is_absolute (sym (slash_end w h)) ∙ all)

-- ---- what is directly in a directory

pub in_directory : (dir path : List ℕ) → is_directly_in dir path ≡ true → (component : List ℕ) × (path ≡ dir ++ component) × (is_component component ≡ true)
in_directory dir path h =
    let rest = drop (length dir) path in
    let parts = and_parts (bytes_eq (take (length dir) path) dir) (is_component rest) h in
    let front : take (length dir) path ≡ dir = (bytes_eq-Decides (take (length dir) path) dir).0 parts.0 in
    (rest, sym (take-append-drop (length dir) path) ∙ ap (λ (z : List ℕ). z ++ rest) front, parts.1)

pub is_in_directory : (dir component : List ℕ) → is_component component ≡ true → is_directly_in dir (dir ++ component) ≡ true
is_in_directory dir component h =
    let front : take (length dir) (dir ++ component) ≡ dir = take-append_seam dir component in
    let behind : drop (length dir) (dir ++ component) ≡ component = drop-append_seam dir component in
    and_from _ _ ((bytes_eq-Decides (take (length dir) (dir ++ component)) dir).1 front) (ap is_component behind ∙ h)
