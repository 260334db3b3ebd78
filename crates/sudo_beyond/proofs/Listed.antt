-- Each case is in its list, and what is in a list has its form.
use Rattle.std.proofs.Common.{◌≡◌, ℕ, ◌^◌, ◌<◌, ◌≤◌, Bool, true, eqb, if◌then◌else◌, Option, Some, None, IfSome}
use Rattle.std.proofs.Common.{List, [], ◌∷◌, ◌++◌, length, map, refl, sym, ap, ◌∙◌, subst, inl, inr, arith}
use Rattle.std.specs.Prelude.{codes}
use Rattle.std.specs.List.{AllByRecursion, Contains}
use Rattle.std.specs.Str.{bytes_eq}
use Rattle.std.specs.Cmp.Lexicographic.{pointwise}
use Rattle.std.proofs.lemmas.Bool.{cases_Bool}
use Rattle.std.proofs.lemmas.Bool.Decides.{Decides-eqb}
use Rattle.std.proofs.lemmas.List.{append_cancel_left}
use Rattle.std.proofs.lemmas.List.Elements.{All-contains, All-from_recursion, recursion_from_All, Contains-append_left, Contains-append_right, Contains-push}
use Rattle.std.proofs.lemmas.Slice.Eq.{bytes_eq-Decides}
use Rattle.sudo_words.specs.Word.{is_file_path, is_arg}
use Rattle.sudo_words.specs.Moment.{IsMoment}
use Rattle.sudo_words.specs.Command.{IsArgRule, IsLawful}
use Rattle.sudo_words.specs.declared.cmnd.Cmnd.{Cmnd}
use Rattle.sudo_words.specs.declared.cmnd.Cmnd.TheVariants.{All, Path, Dir}
use Rattle.sudo_words.specs.declared.cmnd.ArgRule.{ArgRule}
use Rattle.sudo_words.specs.declared.cmnd.ArgRule.TheVariants.{Any, Empty, Exactly}
use Rattle.sudo_policy.specs.declared.entry.Rule.{Rule}
use Rattle.sudo_beyond.specs.declared.run.Run.{Run}
use Rattle.sudo_beyond.specs.Beyond.{Agrees}
use Rattle.sudo_words.specs.Lists.{text_order, IsEachOnce, AreParts}
use Rattle.sudo_beyond.specs.Cases.{other, IsFirstOther, has_word, AreNameCases, run_of, paths, dirs, args_with, args_in}
use Rattle.sudo_beyond.specs.Cases.{listed_args, has_args, ArePathCases, IsFreshFile, AreCommandCases, AreMomentCases, turns}
use Rattle.sudo_beyond.specs.private.Gathering.{IsFormOfOthers, IsLawfulDir}
use Rattle.sudo_beyond.proofs.AlikeLemmas.{all_weaker, all_append, all_flat}
use Rattle.sudo_beyond.proofs.CmndCases.{args_decides, args_few, paths_few, files_in_dir, files_in_root}
use Rattle.sudo_words.proofs.Lists.{any_contains, contains_map, contains_head}
use Rattle.sudo_beyond.proofs.NameCases.{other_arg}
use Rattle.sudo_beyond.proofs.OneCase.{IsNameCase, IsArgsCase, IsCmndCase, IsMomentCase}
use Rattle.sudo_beyond.proofs.Others.{one_first, number_low}
use Rattle.sudo_beyond.proofs.PolicyForms.{lawful_dirs, lawful_paths}
use Rattle.sudo_beyond.proofs.RunLemmas.{all_listed}

-- ---- names

pub name_listed : (fixed : Option (List ℕ)) (standing cases : List (List ℕ)) (x : List ℕ)
    → AreNameCases fixed standing cases → IsNameCase fixed standing x → Contains cases x
name_listed (Some name) standing cases x are is =
    subst (λ (xs : List (List ℕ)). Contains xs x) (sym are) (subst (λ (y : List ℕ). Contains (name ∷ []) y) (sym is) (contains_head name []))
name_listed None standing cases x are (inl stands) =
    subst (λ (xs : List (List ℕ)). Contains xs x) (sym are.cases_are)
    (Contains-append_left are.names (are.other_name ∷ []) x (are.names_are.each x (any_contains bytes_eq bytes_eq-Decides standing x stands)))
name_listed None standing cases x are (inr first) =
    subst (λ (xs : List (List ℕ)). Contains xs x) (sym are.cases_are) (subst (λ (y : List ℕ). Contains (are.names ++ are.other_name ∷ []) y)
    (one_first (has_word standing) are.other_name x are.other_is first) (Contains-push are.names are.other_name))

-- what holds of all standing elements holds of the list that has each of them once
pub recursion_listed : {X : Type 0} (P : X → Type 0) (order : _) (standing listed : List X)
    → IsEachOnce order standing listed → AllByRecursion P standing → AllByRecursion P listed
recursion_listed P order standing listed once all =
    recursion_from_All P listed (all_listed P order standing listed once (All-from_recursion P standing all))

pub names_formed : (form : List ℕ → Bool) → IsFormOfOthers form → (fixed : Option (List ℕ)) (standing cases : List (List ℕ))
    → length standing < 2 ^ 64 → AreNameCases fixed standing cases → IfSome fixed (λ name. form name ≡ true)
    → AllByRecursion (λ name. form name ≡ true) standing → AllByRecursion (λ name. (form name ≡ true) × Agrees fixed name) cases
names_formed form others (Some name) standing cases short are fixed_is standing_are =
    subst (λ (xs : List (List ℕ)). AllByRecursion (λ x. (form x ≡ true) × Agrees (Some name) x) xs) (sym are) ((fixed_is, refl), tt)
names_formed form others None standing cases short are fixed_is standing_are =
    let P : List ℕ → Type 0 = λ x. (form x ≡ true) × Agrees None x in
    let number = number_low bytes_eq bytes_eq-Decides (λ w. w) (λ v w same. same) standing are.other_name are.other_is short in
    subst (λ (xs : List (List ℕ)). AllByRecursion P xs) (sym are.cases_are) (all_append P are.names (are.other_name ∷ []) (all_weaker (λ x. form x ≡ true) P
    are.names (λ x is. (is, tt)) (recursion_listed (λ x. form x ≡ true) text_order standing are.names are.names_are standing_are))
    ((ap form are.other_is.word_is ∙ others are.other_is.number number, tt), tt))

-- ---- parts

parts_each : {X Y : Type 0} (IsPart : X → List Y → Type 0) (xs : List X) (ys : List Y) → AreParts IsPart xs ys
    → AllByRecursion (λ x. (part : List Y) × IsPart x part × ((y : Y) → Contains part y → Contains ys y)) xs
parts_each IsPart [] ys are = tt
parts_each {X} {Y} IsPart (x ∷ xs) ys are = (
  (are.0, are.3, λ y there. subst (λ (zs : List Y). Contains zs y) (sym are.2) (Contains-append_left are.0 are.1 y there)),
  all_weaker (λ z. (part : List Y) × IsPart z part × ((y : Y) → Contains part y → Contains are.1 y))
      (λ z. (part : List Y) × IsPart z part × ((y : Y) → Contains part y → Contains ys y)) xs
      (λ z one. (one.0, one.1, λ y there. subst (λ (zs : List Y). Contains zs y) (sym are.2) (Contains-append_right are.0 are.1 y (one.2 y there))))
      (parts_each IsPart xs are.1 are.4),
)

parts_all : {X Y : Type 0} (IsPart : X → List Y → Type 0) (Q : X → Type 0) (P : Y → Type 0)
    → ((x : X) (part : List Y) → Q x → IsPart x part → AllByRecursion P part)
    → (xs : List X) (ys : List Y) → AreParts IsPart xs ys → AllByRecursion Q xs → AllByRecursion P ys
parts_all {X} {Y} IsPart Q P each [] ys are all = subst (λ (zs : List Y). AllByRecursion P zs) (sym are) tt
parts_all {X} {Y} IsPart Q P each (x ∷ xs) ys are all =
    subst (λ (zs : List Y). AllByRecursion P zs) (sym are.2)
    (all_append P are.0 are.1 (each x are.0 all.0 are.3) (parts_all IsPart Q P each xs are.1 are.4 all.1))

-- ---- paths with arguments

path_listed : (cmnds : List Cmnd) (path : List ℕ) (runs : List Run) (args : List (List ℕ))
    → ArePathCases cmnds path runs → IsArgsCase cmnds path args → Contains runs (run_of path args)
path_listed cmnds path runs args are (inl none) =
    subst (λ (xs : List Run). Contains xs (run_of path args)) (sym are.runs_are)
    (subst (λ (given : List (List ℕ)). Contains (run_of path [] ∷ map (run_of path) are.lists ++ run_of path (are.other_arg ∷ []) ∷ []) (run_of path given))
    (sym none) (contains_head (run_of path []) (map (run_of path) are.lists ++ run_of path (are.other_arg ∷ []) ∷ [])))
path_listed cmnds path runs args are (inr (inl known)) =
    subst (λ (xs : List Run). Contains xs (run_of path args)) (sym are.runs_are)
    (Contains-append_left (run_of path [] ∷ map (run_of path) are.lists) (run_of path (are.other_arg ∷ []) ∷ []) (run_of path args)
    (Contains-append_right (run_of path [] ∷ []) (map (run_of path) are.lists) (run_of path args) (contains_map (run_of path) are.lists args
    (are.lists_are.each args (any_contains (λ y x. pointwise bytes_eq x y) args_decides (args_with path cmnds) args known)))))
path_listed cmnds path runs args are (inr (inr one)) =
    let same : are.other_arg ≡ one.0 = one_first (λ w. has_args (args_with path cmnds) (w ∷ [])) are.other_arg one.0 are.other_is one.2 in
    let given : are.other_arg ∷ [] ≡ args = ap (λ (w : List ℕ). w ∷ []) same ∙ sym one.1 in
    subst (λ (xs : List Run). Contains xs (run_of path args)) (sym are.runs_are)
    (subst (λ (x : List (List ℕ)). Contains (run_of path [] ∷ map (run_of path) are.lists ++ run_of path (are.other_arg ∷ []) ∷ []) (run_of path x)) given
    (Contains-push (run_of path [] ∷ map (run_of path) are.lists) (run_of path (are.other_arg ∷ []))))

fresh_listed : (taken : List (List ℕ)) (dir path word : List ℕ) (args : List (List ℕ)) (runs : List Run) → IsFreshFile taken dir runs
    → path ≡ dir ++ word → args ≡ [] → IsFirstOther (λ w. has_word taken (dir ++ w)) word → Contains runs (run_of path args)
fresh_listed taken dir path word args runs are path_is none first =
    let same : are.name ≡ word = one_first (λ w. has_word taken (dir ++ w)) are.name word are.name_is first in
    let whole : run_of (dir ++ are.name) [] ≡ run_of path args =
    ap (λ (w : List ℕ). run_of (dir ++ w) []) same ∙ ap (λ (p : List ℕ). run_of p []) (sym path_is) ∙ ap (run_of path) (sym none) in
    subst (λ (xs : List Run). Contains xs (run_of path args)) (sym are.runs_are)
    (subst (λ (r : Run). Contains (run_of (dir ++ are.name) [] ∷ []) r) whole (contains_head (run_of (dir ++ are.name) []) []))

pub run_listed : (cmnds : List Cmnd) (runs : List Run) (path : List ℕ) (args : List (List ℕ))
    → AreCommandCases cmnds runs → IsCmndCase cmnds path args → Contains runs (run_of path args)
run_listed cmnds runs path args are (inl case) =
    let Part : List ℕ → Type 0 = λ x. (part : List Run) × ArePathCases cmnds x part × ((y : Run) → Contains part y → Contains are.of_files y) in
    let there = are.files_are.each path (any_contains bytes_eq bytes_eq-Decides (paths cmnds) path case.0) in
    let part =
    All-contains Part are.files path (All-from_recursion Part are.files (parts_each (ArePathCases cmnds) are.files are.of_files are.of_files_are)) there in
    subst (λ (xs : List Run). Contains xs (run_of path args)) (sym are.runs_are)
    (Contains-append_left (are.of_files ++ are.of_directories) are.elsewhere (run_of path args)
    (Contains-append_left are.of_files are.of_directories (run_of path args) (part.2 (run_of path args) (path_listed cmnds path part.0 args part.1 case.1))))
run_listed cmnds runs path args are (inr (inl case)) =
    let Part : List ℕ → Type 0 = λ x. (part : List Run) × IsFreshFile (paths cmnds) x part × ((y : Run) → Contains part y → Contains are.of_directories y) in
    let there = are.directories_are.each case.0 (any_contains bytes_eq bytes_eq-Decides (dirs cmnds) case.0 case.2) in
    let part = All-contains Part are.directories case.0
    (All-from_recursion Part are.directories (parts_each (IsFreshFile (paths cmnds)) are.directories are.of_directories are.of_directories_are)) there in
    subst (λ (xs : List Run). Contains xs (run_of path args)) (sym are.runs_are)
    (Contains-append_left (are.of_files ++ are.of_directories) are.elsewhere (run_of path args)
    (Contains-append_right are.of_files are.of_directories (run_of path args)
    (part.2 (run_of path args) (fresh_listed (paths cmnds) case.0 path case.1 args part.0 part.1 case.3 case.4 case.5))))
run_listed cmnds runs path args are (inr (inr case)) =
    subst (λ (xs : List Run). Contains xs (run_of path args)) (sym are.runs_are)
    (Contains-append_right (are.of_files ++ are.of_directories) are.elsewhere (run_of path args)
    (fresh_listed (paths cmnds) (codes "/") path case.0 args are.elsewhere are.elsewhere_is case.1 case.2 case.3))

-- ---- their form

abbrev pub AreArgs : List (List ℕ) → Type 0
AreArgs args = AllByRecursion (λ arg. is_arg arg ≡ true) args × (length args ≤ 64)

abbrev pub IsRun : Run → Type 0
IsRun run = (is_file_path run.path ≡ true) × AreArgs run.args

rule_args : (rule : ArgRule) → IsArgRule rule → AllByRecursion AreArgs (listed_args rule)
rule_args Any is = tt
rule_args Empty is = tt
rule_args (Exactly args) is = ((is.0, omega (arith, is.2)), tt)

args_formed : (path : List ℕ) (c : Cmnd) → IsLawful c → AllByRecursion AreArgs (args_in path c)
args_formed path All is = tt
args_formed path (Path file rule) is =
    let P : Bool → Type 0 = λ b. AllByRecursion AreArgs (if b then listed_args rule else []) in
    elim (cases_Bool (bytes_eq path file)) [
      | inl here ↦ subst P (sym here) (rule_args rule is.args)
      | inr differs ↦ subst P (sym differs) tt
    ]
args_formed path (Dir dir) is = tt

module _ (cmnds : List Cmnd) (short : length cmnds < 2 ^ 64) (lawful : AllByRecursion IsLawful cmnds) where
  path_formed : (path : List ℕ) (runs : List Run) → is_file_path path ≡ true → ArePathCases cmnds path runs → AllByRecursion IsRun runs
  path_formed path runs is are =
      let lists = recursion_listed AreArgs _ (args_with path cmnds) are.lists are.lists_are
      (all_flat AreArgs (args_in path) cmnds (all_weaker IsLawful (λ c. AllByRecursion AreArgs (args_in path c)) cmnds (args_formed path) lawful)) in
      let few : length (args_with path cmnds) < 2 ^ 64 = omega (arith, args_few path cmnds, short) in
      let number =
      number_low (λ y x. pointwise bytes_eq x y) args_decides (λ w. w ∷ []) (λ v w same. cc) (args_with path cmnds) are.other_arg are.other_is few in
      let arg : is_arg are.other_arg ≡ true = ap is_arg are.other_is.word_is ∙ other_arg are.other_is.number number in
      subst (λ (xs : List Run). AllByRecursion IsRun xs) (sym are.runs_are)
      (all_append IsRun (run_of path [] ∷ map (run_of path) are.lists) (run_of path (are.other_arg ∷ []) ∷ [])
      ((is, (tt, omega arith)), all_of_map is are.lists lists)
      ((is, ((arg, tt), omega arith)), tt))
    where
      all_of_map : is_file_path path ≡ true → (lists : List (List (List ℕ))) → AllByRecursion AreArgs lists → AllByRecursion IsRun (map (run_of path) lists)
      all_of_map is [] all = tt
      all_of_map is (args ∷ lists) all = ((is, all.0), all_of_map is lists all.1)

  fresh_formed : (dir : List ℕ) (runs : List Run) → ((k : ℕ) → k < 2 ^ 64 → is_file_path (dir ++ other k) ≡ true)
      → IsFreshFile (paths cmnds) dir runs → AllByRecursion IsRun runs
  fresh_formed dir runs files are =
      let few : length (paths cmnds) < 2 ^ 64 = omega (arith, paths_few cmnds, short) in
      let number = number_low bytes_eq bytes_eq-Decides (λ w. dir ++ w) (λ v w same. append_cancel_left dir v w same) (paths cmnds) are.name are.name_is few in
      subst (λ (xs : List Run). AllByRecursion IsRun xs) (sym are.runs_are)
      ((ap (λ (w : List ℕ). is_file_path (dir ++ w)) are.name_is.word_is ∙ files are.name_is.number number, (tt, omega arith)), tt)

  pub runs_formed : (runs : List Run) → AreCommandCases cmnds runs → AllByRecursion IsRun runs
  runs_formed runs are =
      let files = recursion_listed (λ path. is_file_path path ≡ true) text_order (paths cmnds) are.files are.files_are (lawful_paths cmnds lawful) in
      let directories = recursion_listed IsLawfulDir text_order (dirs cmnds) are.directories are.directories_are (lawful_dirs cmnds lawful) in
      subst (λ (xs : List Run). AllByRecursion IsRun xs) (sym are.runs_are) (all_append IsRun (are.of_files ++ are.of_directories) are.elsewhere
      (all_append IsRun are.of_files are.of_directories (parts_all (ArePathCases cmnds) (λ path. is_file_path path ≡ true) IsRun path_formed are.files
      are.of_files are.of_files_are files) (parts_all (IsFreshFile (paths cmnds)) IsLawfulDir IsRun (λ dir part is. fresh_formed dir part (files_in_dir dir is))
      are.directories are.of_directories are.of_directories_are directories)) (fresh_formed (codes "/") are.elsewhere files_in_root are.elsewhere_is))

-- ---- moments

pub moment_listed : (rules : List Rule) (cases : List ℕ) (t : ℕ) → AreMomentCases rules cases → IsMomentCase rules t → Contains cases t
moment_listed rules cases t are (is, inl zero_is) = are.each t (subst (λ (u : ℕ). Contains (0 ∷ turns rules) u) (sym zero_is) (contains_head 0 (turns rules)))
moment_listed rules cases t are (is, inr turn) = are.each t (Contains-append_right (0 ∷ []) (turns rules) t (any_contains eqb Decides-eqb (turns rules) t turn))

pub moments_formed : (rules : List Rule) (cases : List ℕ) → AreMomentCases rules cases → AllByRecursion IsMoment (turns rules) → AllByRecursion IsMoment cases
moments_formed rules cases are is = recursion_listed IsMoment _ (0 ∷ turns rules) cases are (omega arith, is)
