-- The case of a command: a path that stands, with its own arguments or others; a file in the same directory; or a file elsewhere.
use Rattle.std.proofs.Common.{◌≡◌, ℕ, ◌^◌, ◌<◌, ◌≤◌, Bool, true, false, not, leb, eqb, ◌&&◌, if◌then◌else◌, List, [], ◌∷◌, ◌++◌}
use Rattle.std.proofs.Common.{length, take, drop, refl, sym, ap, ◌∙◌, subst, inl, inr, arith, append_assoc, length-append}
use Rattle.std.specs.Bool.{Decides}
use Rattle.std.specs.List.{AllByRecursion, list_any, list_all, flat_map, slice_split, onto_first}
use Rattle.std.specs.Str.{bytes_eq}
use Rattle.std.specs.Cmp.Lexicographic.{pointwise}
use Rattle.std.proofs.lemmas.Bool.{cases_Bool, false≢true, false_from_ne_true, or_cases, or_left, or_right, and_parts, and_from, and_left, le-leb, ne_eqb}
use Rattle.std.proofs.lemmas.Bool.Decides.{same_from_decides}
use Rattle.std.proofs.lemmas.List.{append_cancel_left, take-append-drop, take_at, drop_at}
use Rattle.std.proofs.lemmas.List.Elements.{All-from_recursion}
use Rattle.std.proofs.lemmas.List.Folds.{list_all-append}
use Rattle.std.proofs.lemmas.List.Splits.{slice_split-cons_yes, slice_split-cons_no, slice_split_none, length-slice_split}
use Rattle.std.proofs.lemmas.Slice.Eq.{bytes_eq-Decides, slice_eq-Decides}
use Rattle.sudo_words.specs.Word.{is_component, is_path_byte, is_dots, is_absolute, are_components, is_file_path, is_dir_path, is_arg}
use Rattle.sudo_words.specs.Command.{matches, allows, is_directly_in}
use Rattle.sudo_words.specs.declared.cmnd.Cmnd.{Cmnd}
use Rattle.sudo_words.specs.declared.cmnd.Cmnd.TheVariants.{All, Path, Dir}
use Rattle.sudo_words.specs.declared.cmnd.ArgRule.{ArgRule}
use Rattle.sudo_words.specs.declared.cmnd.ArgRule.TheVariants.{Any, Empty, Exactly}
use Rattle.sudo_words.proofs.PathLemmas.{slash_end, dir_parts}
use Rattle.sudo_beyond.specs.Alike.{AlikeCmnds}
use Rattle.sudo_beyond.specs.Cases.{other, has_word, path_in, paths, dir_in, dirs, listed_args, args_in, args_with, has_args}
use Rattle.sudo_beyond.specs.private.Gathering.{IsLawfulDir}
use Rattle.sudo_beyond.proofs.OneCase.{IsCmndCase}
use Rattle.sudo_beyond.proofs.AlikeLemmas.{all_weaker, all_back, all_each}
use Rattle.sudo_beyond.proofs.Fresh.{other_length, found_other}
use Rattle.sudo_beyond.proofs.NameCases.{other_component, other_arg, none_each, all_both, all_true}

-- ---- tests of texts

bytes_eq_sym : (a b : List ℕ) → bytes_eq a b ≡ bytes_eq b a
bytes_eq_sym a b =
    let there = bytes_eq-Decides a b in
    let back = bytes_eq-Decides b a in
    same_from_decides (bytes_eq a b) (bytes_eq b a) there (λ t. sym (back.0 t), λ same. back.1 (sym same))

pub args_decides : (a b : List (List ℕ)) → Decides (pointwise bytes_eq b a) (a ≡ b)
args_decides a b =
    let there : Decides (pointwise bytes_eq b a) (b ≡ a) = slice_eq-Decides bytes_eq-Decides b a (pointwise bytes_eq b a) refl in
    (λ t. sym (there.0 t), λ same. there.1 (sym same))

-- ---- directories

not_slash : (b : ℕ) → is_path_byte b ≡ true → b ≡ 47 → ⊥
not_slash b is slash = false≢true (sym (ap is_path_byte slash) ∙ is)

bytes_of_component : (w : List ℕ) → is_component w ≡ true → list_all is_path_byte w ≡ true
bytes_of_component w is =
    let shape = and_parts (leb 1 (length w) && list_all is_path_byte w) (not (is_dots w)) is in
    (and_parts (leb 1 (length w)) (list_all is_path_byte w) shape.0).1

no_slash_bytes : (w : List ℕ) → list_all is_path_byte w ≡ true → AllByRecursion (λ b. b ≡ 47 → ⊥) w
no_slash_bytes [] all = tt
no_slash_bytes (b ∷ bs) all = let both = and_parts (is_path_byte b) (list_all is_path_byte bs) all in (not_slash b both.0, no_slash_bytes bs both.1)

no_slash : (w : List ℕ) → is_component w ≡ true → AllByRecursion (λ b. b ≡ 47 → ⊥) w
no_slash w is = no_slash_bytes w (bytes_of_component w is)

-- a text is cut at its last slash in one way
no_slash_within : (w f v : List ℕ) → AllByRecursion (λ b. b ≡ 47 → ⊥) w → w ≡ f ++ 47 ∷ v → ⊥
no_slash_within w f v none is =
    let P : ℕ → Type 0 = λ b. b ≡ 47 → ⊥ in
    (all_back P f (47 ∷ v) (subst (λ (x : List ℕ). AllByRecursion P x) is none)).0 refl

last_slash : (f g w v : List ℕ) → AllByRecursion (λ b. b ≡ 47 → ⊥) w → AllByRecursion (λ b. b ≡ 47 → ⊥) v → f ++ 47 ∷ w ≡ g ++ 47 ∷ v → f ≡ g
last_slash [] [] w v none_w none_v same = refl
last_slash [] (b ∷ g) w v none_w none_v same = let rest : w ≡ g ++ 47 ∷ v = cc in absurd (no_slash_within w g v none_w rest)
last_slash (b ∷ f) [] w v none_w none_v same = let rest : v ≡ f ++ 47 ∷ w = cc in absurd (no_slash_within v f w none_v rest)
last_slash (b ∷ f) (c ∷ g) w v none_w none_v same =
    let head : b ≡ c = cc in
    let rest : f ++ 47 ∷ w ≡ g ++ 47 ∷ v = cc in
    let tail : f ≡ g = last_slash f g w v none_w none_v rest in
    cc

-- a directory without its last slash
record Front (dir : List ℕ) : Type 0 where
  front : List ℕ
  dir_is : dir ≡ front ++ 47 ∷ []
  absolute : is_absolute front ≡ true

front_of : (dir : List ℕ) → is_dir_path dir ≡ true → Front dir
front_of dir is = let parts = dir_parts dir is in record { front = _; dir_is = slash_end dir parts.0; absolute = parts.1 }

with_front : (dir w : List ℕ) (f : Front dir) → dir ++ w ≡ f.front ++ 47 ∷ w
with_front dir w f = ap (λ (x : List ℕ). x ++ w) f.dir_is ∙ append_assoc f.front (47 ∷ []) w

one_dir : (d e w v : List ℕ) → is_dir_path d ≡ true → is_dir_path e ≡ true → is_component w ≡ true → is_component v ≡ true → d ++ w ≡ e ++ v → d ≡ e
one_dir d e w v is_d is_e is_w is_v same =
    let f = front_of d is_d in
    let g = front_of e is_e in
    let fronts : f.front ≡ g.front =
    last_slash f.front g.front w v (no_slash w is_w) (no_slash v is_v) (sym (with_front d w f) ∙ same ∙ with_front e v g) in
    f.dir_is ∙ ap (λ (x : List ℕ). x ++ 47 ∷ []) fronts ∙ sym g.dir_is

-- a path directly in a directory
record Within (dir path : List ℕ) : Type 0 where
  name : List ℕ
  path_is : path ≡ dir ++ name
  component : is_component name ≡ true

within_from : (dir path : List ℕ) → is_directly_in dir path ≡ true → Within dir path
within_from dir path is =
    let parts = and_parts (bytes_eq (take (length dir) path) dir) (is_component (drop (length dir) path)) is in
    record {
      name = drop (length dir) path;
      path_is =
          sym (take-append-drop (length dir) path)
          ∙ ap (λ (x : List ℕ). x ++ drop (length dir) path) ((bytes_eq-Decides (take (length dir) path) dir).0 parts.0);
      component = parts.1;
    }

is_within : (dir w : List ℕ) → is_component w ≡ true → is_directly_in dir (dir ++ w) ≡ true
is_within dir w is =
    and_from (bytes_eq (take (length dir) (dir ++ w)) dir) (is_component (drop (length dir) (dir ++ w)))
    ((bytes_eq-Decides (take (length dir) (dir ++ w)) dir).1 (take_at dir w (length dir) refl))
    (ap is_component (drop_at dir w (length dir) refl) ∙ is)

-- a file is directly in one directory
in_dir : (d e w : List ℕ) → is_dir_path d ≡ true → is_dir_path e ≡ true → is_component w ≡ true → is_directly_in d (e ++ w) ≡ bytes_eq d e
in_dir d e w is_d is_e is_w =
    let inside : Decides (is_directly_in d (e ++ w)) (d ≡ e) = (
      λ t. let at = within_from d (e ++ w) t in one_dir d e at.name w is_d is_e at.component is_w (sym at.path_is),
      λ same. subst (λ (x : List ℕ). is_directly_in x (e ++ w) ≡ true) (sym same) (is_within e w is_w),
    ) in
    same_from_decides (is_directly_in d (e ++ w)) (bytes_eq d e) inside (bytes_eq-Decides d e)

-- none of a policy's directories is the root
in_root : (d w : List ℕ) → is_dir_path d ≡ true → is_component w ≡ true → is_directly_in d (47 ∷ w) ≡ false
in_root d w is_d is_w =
    false_from_ne_true (is_directly_in d (47 ∷ w))
    (λ t.
    let at = within_from d (47 ∷ w) t in
    let f = front_of d is_d in
    let none : [] ≡ f.front = last_slash [] f.front w at.name (no_slash w is_w) (no_slash at.name at.component) (at.path_is ∙ with_front d at.name f) in
    false≢true (ap is_absolute none ∙ f.absolute))

-- ---- files in directories are files

onto_append : (x : ℕ) (parts more : List (List ℕ)) → 0 < length parts → onto_first x (parts ++ more) ≡ onto_first x parts ++ more
onto_append x [] more some = absurd (omega arith)
onto_append x (part ∷ parts) more some = refl

split_at_slash : (w v : List ℕ) → slice_split (λ b. eqb b 47) (w ++ 47 ∷ v) ≡ slice_split (λ b. eqb b 47) w ++ slice_split (λ b. eqb b 47) v
split_at_slash [] v = slice_split-cons_yes (λ (x : ℕ). eqb x 47) 47 v refl
split_at_slash (b ∷ bs) v =
    let at = λ (x : ℕ). eqb x 47 in
    elim (cases_Bool (eqb b 47)) [
      | inl holds ↦
          slice_split-cons_yes at b (bs ++ 47 ∷ v) holds ∙ ap (λ (parts : List (List ℕ)). [] ∷ parts) (split_at_slash bs v)
          ∙ ap (λ (parts : List (List ℕ)). parts ++ slice_split at v) (sym (slice_split-cons_yes at b bs holds))
      | inr fails ↦
          slice_split-cons_no at b (bs ++ 47 ∷ v) fails ∙ ap (onto_first b) (split_at_slash bs v)
          ∙ onto_append b (slice_split at bs) (slice_split at v) (omega (arith, length-slice_split at bs))
          ∙ ap (λ (parts : List (List ℕ)). parts ++ slice_split at v) (sym (slice_split-cons_no at b bs fails))
    ]

not_at : (w : List ℕ) → AllByRecursion (λ b. b ≡ 47 → ⊥) w → AllByRecursion (λ b. eqb b 47 ≡ false) w
not_at w none = all_weaker (λ b. b ≡ 47 → ⊥) (λ b. eqb b 47 ≡ false) w (λ b differs. ne_eqb b 47 differs) none

component_alone : (w : List ℕ) → is_component w ≡ true → are_components w ≡ true
component_alone w is =
    ap (list_all is_component) (slice_split_none (λ (b : ℕ). eqb b 47) w (All-from_recursion (λ b. eqb b 47 ≡ false) w (not_at w (no_slash w is))))
    ∙ and_from (is_component w) true is refl

absolute_more : (f w : List ℕ) → is_absolute f ≡ true → is_component w ≡ true → is_absolute (f ++ 47 ∷ w) ≡ true
absolute_more [] w is is_w = absurd (false≢true is)
absolute_more (b ∷ bs) w is is_w =
    let both = and_parts (eqb b 47) (are_components bs) is in
    and_from (eqb b 47) (are_components (bs ++ 47 ∷ w)) both.0
    (ap (list_all is_component) (split_at_slash bs w)
    ∙ list_all-append is_component (slice_split (λ x. eqb x 47) bs) (slice_split (λ x. eqb x 47) w)
    ∙ and_from (are_components bs) (are_components w) both.1 (component_alone w is_w))

pub file_in_dir : (d w : List ℕ) → IsLawfulDir d → is_component w ≡ true → length w ≤ 25 → is_file_path (d ++ w) ≡ true
file_in_dir d w legal is_w short =
    let f = front_of d legal.0 in
    and_from (is_absolute (d ++ w)) (leb (length (d ++ w)) 4096)
    (ap is_absolute (with_front d w f) ∙ absolute_more f.front w f.absolute is_w)
    (le-leb (length (d ++ w)) 4096 (omega (arith, length-append d w, legal.1)))

pub file_in_root : (w : List ℕ) → is_component w ≡ true → length w ≤ 25 → is_file_path (47 ∷ w) ≡ true
file_in_root w is_w short =
    and_from (are_components w) (leb (length (47 ∷ w)) 4096) (component_alone w is_w) (le-leb (length (47 ∷ w)) 4096 (omega arith))

-- ---- other arguments

listed_other : (rule : ArgRule) (args others : List (List ℕ)) → 0 < length args → 0 < length others
    → AllByRecursion (λ wanted. pointwise bytes_eq args wanted ≡ false) (listed_args rule)
    → AllByRecursion (λ wanted. pointwise bytes_eq others wanted ≡ false) (listed_args rule) → allows rule args ≡ allows rule others
listed_other Any args others some more no_a no_o = refl
listed_other Empty args others some more no_a no_o =
    ne_eqb (length args) 0 (λ e. absurd (omega arith)) ∙ sym (ne_eqb (length others) 0 (λ e. absurd (omega arith)))
listed_other (Exactly wanted) args others some more no_a no_o = no_a.0 ∙ sym no_o.0

args_other : (path : List ℕ) (args others : List (List ℕ)) → 0 < length args → 0 < length others → (c : Cmnd)
    → AllByRecursion (λ wanted. pointwise bytes_eq args wanted ≡ false) (args_in path c)
    → AllByRecursion (λ wanted. pointwise bytes_eq others wanted ≡ false) (args_in path c) → matches c path args ≡ matches c path others
args_other path args others some more All no_a no_o = refl
args_other path args others some more (Path file rule) no_a no_o =
    let P : List (List ℕ) → Bool → Type 0 =
    λ given b. AllByRecursion (λ wanted. pointwise bytes_eq given wanted ≡ false) (if b then listed_args rule else []) in
    elim (cases_Bool (bytes_eq path file)) [
      | inl is ↦ ap (λ (b : Bool). bytes_eq path file && b) (listed_other rule args others some more (subst (P args) is no_a) (subst (P others) is no_o))
      | inr differs ↦ and_left (bytes_eq path file) (allows rule args) differs ∙ sym (and_left (bytes_eq path file) (allows rule others) differs)
    ]
args_other path args others some more (Dir dir) no_a no_o = refl

-- ---- paths that no command names

-- no command names either path, and each directory has both or neither
elsewhere : (path q : List ℕ) (args others : List (List ℕ)) (c : Cmnd)
    → AllByRecursion (λ file. bytes_eq file path ≡ false) (path_in c) → AllByRecursion (λ file. bytes_eq file q ≡ false) (path_in c)
    → AllByRecursion (λ dir. is_directly_in dir path ≡ is_directly_in dir q) (dir_in c) → matches c path args ≡ matches c q others
elsewhere path q args others All no_p no_q dirs_alike = refl
elsewhere path q args others (Path file rule) no_p no_q dirs_alike =
    and_left (bytes_eq path file) (allows rule args) (bytes_eq_sym path file ∙ no_p.0)
    ∙ sym (and_left (bytes_eq q file) (allows rule others) (bytes_eq_sym q file ∙ no_q.0))
elsewhere path q args others (Dir dir) no_p no_q dirs_alike = dirs_alike.0

elsewhere_alike : (cmnds : List Cmnd) (path q : List ℕ) (args others : List (List ℕ)) → has_word (paths cmnds) path ≡ false → has_word (paths cmnds) q ≡ false
    → AllByRecursion (λ dir. is_directly_in dir path ≡ is_directly_in dir q) (dirs cmnds) → AlikeCmnds cmnds path args q others
elsewhere_alike cmnds path q args others no_p no_q dirs_alike =
    let P : List ℕ → Type 0 = λ file. bytes_eq file path ≡ false in
    let Q : List ℕ → Type 0 = λ file. bytes_eq file q ≡ false in
    let D : List ℕ → Type 0 = λ dir. is_directly_in dir path ≡ is_directly_in dir q in
    let ps = all_each P path_in cmnds (none_each (λ file. bytes_eq file path) (paths cmnds) no_p) in
    let qs = all_each Q path_in cmnds (none_each (λ file. bytes_eq file q) (paths cmnds) no_q) in
    let ds = all_each D dir_in cmnds dirs_alike in
    all_weaker (λ c. AllByRecursion P (path_in c) × (AllByRecursion Q (path_in c) × AllByRecursion D (dir_in c)))
    (λ c. matches c path args ≡ matches c q others) cmnds (λ c each. elsewhere path q args others c each.0 each.1.0 each.1.1)
    (all_both (λ c. AllByRecursion P (path_in c)) (λ c. AllByRecursion Q (path_in c) × AllByRecursion D (dir_in c)) cmnds ps
    (all_both (λ c. AllByRecursion Q (path_in c)) (λ c. AllByRecursion D (dir_in c)) cmnds qs ds))

-- ---- how many stand

pub short_flat : {X Y : Type 0} (h : X → List Y) (xs : List X) → ((x : X) → length (h x) ≤ 1) → length (flat_map h xs) ≤ length xs
short_flat h [] most = omega arith
short_flat h (x ∷ xs) most = omega (arith, length-append (h x) (flat_map h xs), most x, short_flat h xs most)

one_path : (c : Cmnd) → length (path_in c) ≤ 1
one_path All = omega arith
one_path (Path file rule) = omega arith
one_path (Dir dir) = omega arith

one_listed : (rule : ArgRule) → length (listed_args rule) ≤ 1
one_listed Any = omega arith
one_listed Empty = omega arith
one_listed (Exactly args) = omega arith

one_args : (path : List ℕ) (c : Cmnd) → length (args_in path c) ≤ 1
one_args path All = omega arith
one_args path (Path file rule) =
    elim (cases_Bool (bytes_eq path file)) [
      | inl is ↦ subst (λ (b : Bool). length (if b then listed_args rule else []) ≤ 1) (sym is) (one_listed rule)
      | inr differs ↦ subst (λ (b : Bool). length (if b then listed_args rule else []) ≤ 1) (sym differs) (omega arith)
    ]
one_args path (Dir dir) = omega arith

pub paths_few : (cmnds : List Cmnd) → length (paths cmnds) ≤ length cmnds
paths_few cmnds = short_flat path_in cmnds one_path

pub args_few : (path : List ℕ) (cmnds : List Cmnd) → length (args_with path cmnds) ≤ length cmnds
args_few path cmnds = short_flat (args_in path) cmnds (one_args path)

-- ---- the case of a command

pub record CmndStands (cmnds : List Cmnd) (path : List ℕ) (args : List (List ℕ)) : Type 0 where
  pub file : List ℕ
  pub given : List (List ℕ)
  pub is_case : IsCmndCase cmnds file given
  pub is_file : is_file_path file ≡ true
  pub are_args : AllByRecursion (λ arg. is_arg arg ≡ true) given
  pub few : length given ≤ 64
  pub alike : AlikeCmnds cmnds path args file given

itself : (cmnds : List Cmnd) (path : List ℕ) (args : List (List ℕ)) → AlikeCmnds cmnds path args path args
itself cmnds path args = all_true (λ c. matches c path args ≡ matches c path args) cmnds (λ c. refl)

-- the directory that has the path
record Directory (ds : List (List ℕ)) (path : List ℕ) : Type 0 where
  dir : List ℕ
  stands : has_word ds dir ≡ true
  legal : IsLawfulDir dir
  within : is_directly_in dir path ≡ true

directory_of : (ds : List (List ℕ)) (path : List ℕ) → AllByRecursion IsLawfulDir ds → list_any (λ dir. is_directly_in dir path) ds ≡ true → Directory ds path
directory_of [] path legal found = absurd (false≢true found)
directory_of (d ∷ ds) path legal found =
    elim (or_cases (is_directly_in d path) (list_any (λ dir. is_directly_in dir path) ds) found) [
      | inl here ↦ record { dir = d; stands = or_left (bytes_eq d d) (has_word ds d) ((bytes_eq-Decides d d).1 refl); legal = legal.0; within = here }
      | inr later ↦
          let rest = directory_of ds path legal.1 later in
          record { dir = rest.dir; stands = or_right (bytes_eq d rest.dir) (has_word ds rest.dir) rest.stands; legal = rest.legal; within = rest.within }
    ]

module _ (cmnds : List Cmnd) (short : length cmnds < 2 ^ 64) (legal : AllByRecursion IsLawfulDir (dirs cmnds)) where
  paths_short : length (paths cmnds) < 2 ^ 64
  paths_short = omega (arith, short_flat path_in cmnds one_path)

  args_short : (path : List ℕ) → length (args_with path cmnds) < 2 ^ 64
  args_short path = omega (arith, short_flat (args_in path) cmnds (one_args path))

  -- a path that stands
  with_args : (path : List ℕ) (args : List (List ℕ)) → is_file_path path ≡ true → AllByRecursion (λ arg. is_arg arg ≡ true) args → length args ≤ 64
      → has_word (paths cmnds) path ≡ true → CmndStands cmnds path args
  with_args path [] is are few stands =
      record { file = path; given = []; is_case = inl (stands, inl refl); is_file = is; are_args = tt; few = omega arith; alike = itself cmnds path [] }
  with_args path (arg ∷ args) is are few stands =
      elim (cases_Bool (has_args (args_with path cmnds) (arg ∷ args))) [
        | inl known ↦
            record {
              file = path;
              given = arg ∷ args;
              is_case = inl (stands, inr (inl known));
              is_file = is;
              are_args = are;
              few = few;
              alike = itself cmnds path (arg ∷ args);
            }
        | inr unknown ↦
            let found = found_other (λ y x. pointwise bytes_eq x y) args_decides (λ w. w ∷ []) (λ v w same. cc) (args_with path cmnds) (args_short path) in
            let P : List (List ℕ) → Type 0 = λ wanted. pointwise bytes_eq (arg ∷ args) wanted ≡ false in
            let Q : List (List ℕ) → Type 0 = λ wanted. pointwise bytes_eq (found.word ∷ []) wanted ≡ false in
            record {
              file = path;
              given = found.word ∷ [];
              is_case = inl (stands, inr (inr (found.word, refl, found.first)));
              is_file = is;
              are_args = (ap is_arg found.first.word_is ∙ other_arg found.first.number (omega (arith, found.low, args_short path)), tt);
              few = omega arith;
              alike =
                  all_weaker (λ c. AllByRecursion P (args_in path c) × AllByRecursion Q (args_in path c))
                  (λ c. matches c path (arg ∷ args) ≡ matches c path (found.word ∷ [])) cmnds
                  (λ c both. args_other path (arg ∷ args) (found.word ∷ []) (omega arith) (omega arith) c both.0 both.1)
                  (all_both (λ c. AllByRecursion P (args_in path c)) (λ c. AllByRecursion Q (args_in path c)) cmnds
                  (all_each P (args_in path) cmnds (none_each (λ wanted. pointwise bytes_eq (arg ∷ args) wanted) (args_with path cmnds) unknown)) (all_each Q
                  (args_in path) cmnds (none_each (λ wanted. pointwise bytes_eq (found.word ∷ []) wanted) (args_with path cmnds) found.first.free)));
            }
      ]

  -- a path that does not, in a directory that does
  in_directory : (path : List ℕ) (args : List (List ℕ)) → has_word (paths cmnds) path ≡ false → Directory (dirs cmnds) path → CmndStands cmnds path args
  in_directory path args absent at =
      let found = found_other bytes_eq bytes_eq-Decides (λ w. at.dir ++ w) (λ v w same. append_cancel_left at.dir v w same) (paths cmnds) paths_short in
      let low : found.first.number < 2 ^ 64 = omega (arith, found.low, paths_short) in
      let component : is_component found.word ≡ true = ap is_component found.first.word_is ∙ other_component found.first.number low in
      let short_word : length found.word ≤ 25 = omega (arith, ap length found.first.word_is, other_length found.first.number low) in
      let inside = within_from at.dir path at.within in
      record {
        file = at.dir ++ found.word;
        given = [];
        is_case = inr (inl (at.dir, found.word, at.stands, refl, refl, found.first));
        is_file = file_in_dir at.dir found.word at.legal component short_word;
        are_args = tt;
        few = omega arith;
        alike =
            elsewhere_alike cmnds path (at.dir ++ found.word) args [] absent found.first.free
            (all_weaker IsLawfulDir (λ dir. is_directly_in dir path ≡ is_directly_in dir (at.dir ++ found.word)) (dirs cmnds)
            (λ dir is.
            ap (is_directly_in dir) inside.path_is
            ∙ in_dir dir at.dir inside.name is.0 at.legal.0 inside.component
            ∙ sym (in_dir dir at.dir found.word is.0 at.legal.0 component))
            legal);
      }

  -- a path elsewhere
  in_none : (path : List ℕ) (args : List (List ℕ)) → has_word (paths cmnds) path ≡ false
      → list_any (λ dir. is_directly_in dir path) (dirs cmnds) ≡ false → CmndStands cmnds path args
  in_none path args absent outside =
      let found = found_other bytes_eq bytes_eq-Decides (λ w. 47 ∷ w) (λ v w same. cc) (paths cmnds) paths_short in
      let low : found.first.number < 2 ^ 64 = omega (arith, found.low, paths_short) in
      let component : is_component found.word ≡ true = ap is_component found.first.word_is ∙ other_component found.first.number low in
      let short_word : length found.word ≤ 25 = omega (arith, ap length found.first.word_is, other_length found.first.number low) in
      record {
        file = 47 ∷ found.word;
        given = [];
        is_case = inr (inr (found.word, refl, refl, found.first));
        is_file = file_in_root found.word component short_word;
        are_args = tt;
        few = omega arith;
        alike =
            elsewhere_alike cmnds path (47 ∷ found.word) args [] absent found.first.free
            (all_weaker (λ dir. IsLawfulDir dir × (is_directly_in dir path ≡ false)) (λ dir. is_directly_in dir path ≡ is_directly_in dir (47 ∷ found.word))
            (dirs cmnds) (λ dir both. both.1 ∙ sym (in_root dir found.word both.0.0 component)) (all_both IsLawfulDir
            (λ dir. is_directly_in dir path ≡ false) (dirs cmnds) legal (none_each (λ dir. is_directly_in dir path) (dirs cmnds) outside)));
      }

  pub cmnd_stands : (path : List ℕ) (args : List (List ℕ)) → is_file_path path ≡ true
      → AllByRecursion (λ arg. is_arg arg ≡ true) args → length args ≤ 64 → CmndStands cmnds path args
  cmnd_stands path args is are few =
      elim (cases_Bool (has_word (paths cmnds) path)) [
        | inl stands ↦ with_args path args is are few stands
        | inr absent ↦
            elim (cases_Bool (list_any (λ dir. is_directly_in dir path) (dirs cmnds))) [
              | inl inside ↦ in_directory path args absent (directory_of (dirs cmnds) path legal inside)
              | inr outside ↦ in_none path args absent outside
            ]
      ]

-- ---- others are files of directories and of the root

pub files_in_dir : (dir : List ℕ) → IsLawfulDir dir → (k : ℕ) → k < 2 ^ 64 → is_file_path (dir ++ other k) ≡ true
files_in_dir dir lawful k small = file_in_dir dir (other k) lawful (other_component k small) (other_length k small)

pub files_in_root : (k : ℕ) → k < 2 ^ 64 → is_file_path (47 ∷ other k) ≡ true
files_in_root k small = file_in_root (other k) (other_component k small) (other_length k small)
