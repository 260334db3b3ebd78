-- The cases that stand for all invocations: a list of users, one of hosts, of targets, of paths
-- with arguments, and of moments.
use Rattle.std.specs.Prelude.{◌≡◌, ℕ, ◌+◌, ◌*◌, ◌<◌, Bool, true, false, nat_le, if◌then◌else◌}
use Rattle.std.specs.Prelude.{List, [], ◌∷◌, ◌++◌, length, map, Option, Some, None, codes}
use Rattle.std.specs.List.{flat_map, list_any}
use Rattle.std.specs.Option.{option_to_list}
use Rattle.std.specs.Ordering.{nat_cmp}
use Rattle.std.specs.Str.{bytes_eq}
use Rattle.std.specs.Cmp.Lexicographic.{pointwise}
use Rattle.std.specs.Fmt.{decimal}
use Rattle.sudo_words.specs.Lists.{text_order, args_order, IsEachOnce, AreParts}
use Rattle.sudo_words.specs.declared.cmnd.Cmnd.{Cmnd}
use Rattle.sudo_words.specs.declared.cmnd.Cmnd.TheVariants.{All, Path, Dir}
use Rattle.sudo_words.specs.declared.cmnd.ArgRule.{ArgRule}
use Rattle.sudo_words.specs.declared.cmnd.ArgRule.TheVariants.{Any, Empty, Exactly}
use Rattle.sudo_policy.specs.declared.entry.Rule.{Rule}
use Rattle.sudo_policy.specs.declared.entry.Entry.{Entry}
use Rattle.sudo_decide.specs.declared.invocation.Invocation.{Invocation}
use Rattle.sudo_decide.specs.Reach.{rules_in}
use Rattle.sudo_beyond.specs.declared.cases.Cases.{Cases}
use Rattle.sudo_beyond.specs.declared.run.Run.{Run}
use Rattle.sudo_decide.specs.declared.scope.Scope.{Scope}
use Rattle.sudo_beyond.specs.Standing.{users, hosts, runas, commands}

-- ---- other words: `other0`, `other1` and so on

abbrev pub other : ℕ → List ℕ
other k = codes "other" ++ decimal k

-- the first of them that is not taken
pub record IsFirstOther (taken : List ℕ → Bool) (word : List ℕ) : Type 0 where
  pub number : ℕ
  pub word_is : word ≡ other number
  pub free : taken word ≡ false
  pub first : (k : ℕ) → k < number → taken (other k) ≡ true

-- ---- names: those that stand in the policies, and one that does not. A list tells two names apart
-- only if one of them stands in it, so one name that stands in no list is as good as any other.

abbrev pub has_word : List (List ℕ) → List ℕ → Bool
has_word words x = list_any (λ word. bytes_eq word x) words

pub record AreNamesAndOther (standing cases : List (List ℕ)) : Type 0 where
  pub names : List (List ℕ)
  pub other_name : List ℕ
  pub cases_are : cases ≡ names ++ other_name ∷ []
  pub names_are : IsEachOnce text_order standing names
  pub other_is : IsFirstOther (has_word standing) other_name

-- where the scope fixes the name, it alone
abbrev pub AreNameCases : Option (List ℕ) → List (List ℕ) → List (List ℕ) → Type 0
AreNameCases (Some fixed) standing cases = cases ≡ fixed ∷ []
AreNameCases None standing cases = AreNamesAndOther standing cases

-- ---- paths with arguments

abbrev pub run_of : List ℕ → List (List ℕ) → Run
run_of path args = record { path = path; args = args }

-- the paths and the directories of commands
abbrev pub path_in : Cmnd → List (List ℕ)
path_in All = []
path_in (Path file rule) = file ∷ []
path_in (Dir dir) = []

abbrev pub paths : List Cmnd → List (List ℕ)
paths cmnds = flat_map path_in cmnds

abbrev pub dir_in : Cmnd → List (List ℕ)
dir_in All = []
dir_in (Path file rule) = []
dir_in (Dir dir) = dir ∷ []

abbrev pub dirs : List Cmnd → List (List ℕ)
dirs cmnds = flat_map dir_in cmnds

-- the lists of arguments that stand with a path; a policy has no empty one
abbrev pub listed_args : ArgRule → List (List (List ℕ))
listed_args Any = []
listed_args Empty = []
listed_args (Exactly args) = args ∷ []

abbrev pub args_in : List ℕ → Cmnd → List (List (List ℕ))
args_in path All = []
args_in path (Path file rule) = if bytes_eq path file then listed_args rule else []
args_in path (Dir dir) = []

abbrev pub args_with : List ℕ → List Cmnd → List (List (List ℕ))
args_with path cmnds = flat_map (args_in path) cmnds

abbrev pub has_args : List (List (List ℕ)) → List (List ℕ) → Bool
has_args lists args = list_any (λ wanted. pointwise bytes_eq args wanted) lists

-- A path that stands in a policy: without arguments, with each list that stands with it, and with
-- one argument that does not stand alone with it. A rule for its arguments tells `""`, its own list
-- and the rest apart, and nothing else.
pub record ArePathCases (cmnds : List Cmnd) (path : List ℕ) (runs : List Run) : Type 0 where
  pub lists : List (List (List ℕ))
  pub other_arg : List ℕ
  pub runs_are :
      runs ≡ run_of path [] ∷ map (run_of path) lists ++ run_of path (other_arg ∷ []) ∷ []
  pub lists_are : IsEachOnce args_order (args_with path cmnds) lists
  pub other_is : IsFirstOther (λ word. has_args (args_with path cmnds) (word ∷ [])) other_arg

-- A file in this directory that is not among the paths, without arguments: no command tells two
-- such files of one directory apart.
pub record IsFreshFile (taken : List (List ℕ)) (dir : List ℕ) (runs : List Run) : Type 0 where
  pub name : List ℕ
  pub runs_are : runs ≡ run_of (dir ++ name) [] ∷ []
  pub name_is : IsFirstOther (λ word. has_word taken (dir ++ word)) name

-- for each path, for each directory, and for what is in neither: a file of the root, where no
-- policy has a directory
pub record AreCommandCases (cmnds : List Cmnd) (runs : List Run) : Type 0 where
  pub files : List (List ℕ)
  pub directories : List (List ℕ)
  pub of_files : List Run
  pub of_directories : List Run
  pub elsewhere : List Run
  pub runs_are : runs ≡ of_files ++ of_directories ++ elsewhere
  pub files_are : IsEachOnce text_order (paths cmnds) files
  pub directories_are : IsEachOnce text_order (dirs cmnds) directories
  pub of_files_are : AreParts (ArePathCases cmnds) files of_files
  pub of_directories_are : AreParts (IsFreshFile (paths cmnds)) directories of_directories
  pub elsewhere_is : IsFreshFile (paths cmnds) (codes "/") elsewhere

-- ---- moments: 0, each NOTBEFORE, and the moment after each NOTAFTER. Between two of them no rule
-- begins or ceases to take part.

-- 20991231235958Z: after it there is one moment more, and after that there is none
abbrev pub last_but_one : ℕ
last_but_one = 4_102_444_798

abbrev pub moment_after : Option ℕ → List ℕ
moment_after None = []
moment_after (Some last) = if nat_le last last_but_one then (last + 1) ∷ [] else []

abbrev pub turns_of : Rule → List ℕ
turns_of r = option_to_list r.not_before ++ moment_after r.not_after

abbrev pub turns : List Rule → List ℕ
turns rules = flat_map turns_of rules

abbrev pub AreMomentCases : List Rule → List ℕ → Type 0
AreMomentCases rules cases = IsEachOnce nat_cmp (0 ∷ turns rules) cases

-- ---- the five lists of two policies, made from what stands in either. An alias counts even if no
-- rule uses it.

pub record AreCases (s : Scope) (a b : List Entry) (c : Cases) : Type 0 where
  pub users : AreNameCases s.user (users a ++ users b) c.users
  pub hosts : AreNameCases s.host (hosts a ++ hosts b) c.hosts
  pub targets : AreNameCases s.runas (runas a ++ runas b) c.targets
  pub runs : AreCommandCases (commands a ++ commands b) c.runs
  pub moments : AreMomentCases (rules_in a ++ rules_in b) c.moments

-- how many combinations there are
abbrev pub product : Cases → ℕ
product c = length c.users * length c.hosts * length c.targets * length c.runs * length c.moments

-- all of them, in the order in which they are tried: users outermost, then hosts, targets, paths
-- with arguments, and moments
abbrev pub invocation_of : List ℕ → List ℕ → List ℕ → Run → ℕ → Invocation
invocation_of user host runas run at = record {
  user = user;
  host = host;
  runas = runas;
  path = run.path;
  args = run.args;
  at = at;
}

abbrev pub of_run : Cases → List ℕ → List ℕ → List ℕ → Run → List Invocation
of_run c user host runas run = map (invocation_of user host runas run) c.moments

abbrev pub of_target : Cases → List ℕ → List ℕ → List ℕ → List Invocation
of_target c user host runas = flat_map (of_run c user host runas) c.runs

abbrev pub of_host : Cases → List ℕ → List ℕ → List Invocation
of_host c user host = flat_map (of_target c user host) c.targets

abbrev pub of_user : Cases → List ℕ → List Invocation
of_user c user = flat_map (of_host c user) c.hosts

abbrev pub invocations : Cases → List Invocation
invocations c = flat_map (of_user c) c.users
