-- The list of paths with their arguments, put together from its parts.
use Rattle.std.proofs.Common.{◌≡◌, ℕ, ◌+◌, ◌<◌, Bool, List, [], ◌∷◌, ◌++◌, length, map, take, get_or, sym, ap, ◌∙◌, subst, append_assoc}
use Rattle.std.specs.Prelude.{codes}
use Rattle.std.specs.List.{All, Contains, list_any}
use Rattle.std.specs.Str.{bytes_eq}
use Rattle.std.specs.Cmp.Lexicographic.{pointwise, lists_equiv, nat_list_eq_equiv}
use Rattle.std.proofs.Math.Path.{fun_ext}
use Rattle.std.proofs.lemmas.List.Elements.{All-weaker, All-contains, All-contains_itself}
use Rattle.std.proofs.lemmas.Slice.Eq.{bytes_eq-Decides}
use Rattle.sudo_words.specs.declared.cmnd.Cmnd.{Cmnd}
use Rattle.sudo_beyond.specs.declared.run.Run.{Run}
use Rattle.sudo_words.specs.Lists.{text_order, args_order, IsEachOnce, AreParts}
use Rattle.sudo_beyond.specs.Cases.{IsFirstOther, has_word, run_of, paths, dirs, args_with, has_args, ArePathCases, IsFreshFile, AreCommandCases}
use Rattle.sudo_beyond.specs.private.Gathering.{IsFreeFile, IsFreeArgs, Adds}
use Rattle.sudo_beyond.proofs.CmndCases.{args_decides}
use Rattle.sudo_words.proofs.Lists.{any_once, take_next, parts_more, parts_weaker}

-- comparing two lists of arguments in either order gives the same
pub args_either_way : (lists : List (List (List ℕ))) (args : List (List ℕ)) → list_any (λ wanted. pointwise bytes_eq wanted args) lists ≡ has_args lists args
args_either_way lists args =
    ap (λ (test : List (List ℕ) → Bool). list_any test lists) (fun_ext (λ wanted. (lists_equiv nat_list_eq_equiv).symm wanted args))

-- what is free among the lists, each once, is free among those that stand with the path
args_alike : (path : List ℕ) (cmnds : List Cmnd) (lists : List (List (List ℕ)))
    → IsEachOnce args_order (args_with path cmnds) lists → has_args lists ≡ has_args (args_with path cmnds)
args_alike path cmnds lists once =
    fun_ext (λ args. any_once (λ y x. pointwise bytes_eq x y) args_decides args_order (args_with path cmnds) lists once args)

pub files_alike : (standing listed : List (List ℕ)) → IsEachOnce text_order standing listed → has_word listed ≡ has_word standing
files_alike standing listed once = fun_ext (λ x. any_once bytes_eq bytes_eq-Decides text_order standing listed once x)

fresh_alike : (standing listed : List (List ℕ)) → IsEachOnce text_order standing listed
    → (dir : List ℕ) (runs : List Run) → IsFreshFile listed dir runs → IsFreshFile standing dir runs
fresh_alike standing listed once dir runs is = record {
  name = is.name;
  runs_are = is.runs_are;
  name_is = subst (λ (test : List ℕ → Bool). IsFirstOther (λ word. test (dir ++ word)) is.name) (files_alike standing listed once) is.name_is;
}

pub path_cases : (cmnds : List Cmnd) (path : List ℕ) (lists : List (List (List ℕ))) (args : List (List ℕ)) (old one two new : List Run)
    → IsEachOnce args_order (args_with path cmnds) lists → IsFreeArgs lists args
    → one ≡ old ++ run_of path [] ∷ [] → two ≡ one ++ map (run_of path) lists → new ≡ two ++ run_of path args ∷ [] → Adds (ArePathCases cmnds path) old new
path_cases cmnds path lists args old one two new once free is_one is_two is_new = (
  run_of path [] ∷ map (run_of path) lists ++ run_of path args ∷ [],
  is_new ∙ ap (λ (xs : List Run). xs ++ run_of path args ∷ []) (is_two ∙ ap (λ (xs : List Run). xs ++ map (run_of path) lists) is_one) ∙ simp append_assoc,
  record {
    lists = lists;
    other_arg = free.0;
    runs_are = ap (λ (given : List (List ℕ)). run_of path [] ∷ map (run_of path) lists ++ run_of path given ∷ []) free.1;
    lists_are = once;
    other_is = subst (λ (test : List (List ℕ) → Bool). IsFirstOther (λ word. test (word ∷ [])) free.0) (args_alike path cmnds lists once) free.2;
  },
)

pub fresh_file : (files : List (List ℕ)) (dir path : List ℕ) (args : List (List ℕ)) (old new : List Run) → IsFreeFile files dir path → args ≡ []
    → new ≡ old ++ run_of path args ∷ [] → Adds (IsFreshFile files dir) old new
fresh_file files dir path args old new free none is = (
  run_of path args ∷ [],
  is,
  record {
    name = free.0;
    runs_are = ap (λ (given : List (List ℕ)). run_of path given ∷ []) none ∙ ap (λ (file : List ℕ). run_of file [] ∷ []) free.1;
    name_is = free.2;
  },
)

pub command_cases : (cmnds : List Cmnd) (files directories : List (List ℕ)) (none one two new : List Run)
    → IsEachOnce text_order (paths cmnds) files → IsEachOnce text_order (dirs cmnds) directories → none ≡ []
    → Adds (AreParts (ArePathCases cmnds) files) none one → Adds (AreParts (IsFreshFile files) directories) one two
    → Adds (IsFreshFile files (codes "/")) two new → AreCommandCases cmnds new
command_cases cmnds files directories none one two new once_files once_directories is_none first second third = record {
  files = files;
  directories = directories;
  of_files = first.0;
  of_directories = second.0;
  elsewhere = third.0;
  runs_are =
      third.1
      ∙ ap (λ (xs : List Run). xs ++ third.0) (second.1 ∙ ap (λ (xs : List Run). xs ++ second.0) (first.1 ∙ ap (λ (xs : List Run). xs ++ first.0) is_none));
  files_are = once_files;
  directories_are = once_directories;
  of_files_are = first.2;
  of_directories_are = parts_weaker (IsFreshFile files) (IsFreshFile (paths cmnds)) (fresh_alike (paths cmnds) files once_files) directories second.0 second.2;
  elsewhere_is = fresh_alike (paths cmnds) files once_files (codes "/") third.0 third.2;
}

-- what holds of all standing elements holds of all listed elements
pub all_listed : {X : Type 0} (P : X → Type 0) (order : _) (standing listed : List X) → IsEachOnce order standing listed → All P standing → All P listed
all_listed P order standing listed once all =
    All-weaker (Contains listed) P (λ x there. All-contains P standing x all (once.only x there)) listed (All-contains_itself listed)

-- ---- parts that are added one after the other

pub adds_more : {X Y : Type 0} (IsPart : X → List Y → Type 0) (xs : List X) (k : ℕ) (x : X) (old mid new : List Y) → k < length xs → x ≡ get_or xs k x
    → Adds (AreParts IsPart (take k xs)) old mid → Adds (IsPart x) mid new → Adds (AreParts IsPart (take (k + 1) xs)) old new
adds_more {X} {Y} IsPart xs k x old mid new below is before adds =
    subst (λ (zs : List X). Adds (AreParts IsPart zs) old new) (sym (take_next xs k x below is)) (
      before.0 ++ adds.0,
      adds.1 ∙ ap (λ (zs : List Y). zs ++ adds.0) before.1 ∙ append_assoc old before.0 adds.0,
      parts_more IsPart (take k xs) x before.0 adds.0 before.2 adds.2,
    )
