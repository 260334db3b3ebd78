-- Commands of a sudoers text: which invocations they match, which are lawful, and how each is
-- written (sudoers(5), "Cmnd_List" and "Command arguments").
use Rattle.std.specs.Prelude.{◌≡◌, ℕ, ◌≤◌, Bool, true, false, ◌&&◌, ◌||◌, ◌==◌}
use Rattle.std.specs.Prelude.{if◌then◌else◌, List, [], ◌∷◌, ◌++◌, length, take, drop, codes}
use Rattle.std.specs.List.{AllByRecursion, flat_map}
use Rattle.std.specs.Str.{bytes_eq}
use Rattle.std.specs.Cmp.Lexicographic.{pointwise}
use Rattle.sudo_words.specs.Bytes.{space, equals, comma, colon, backslash}
use Rattle.sudo_words.specs.Word.{is_component, is_file_path, is_dir_path, is_sudoedit, is_arg}
use Rattle.sudo_words.specs.declared.cmnd.Cmnd.{Cmnd}
use Rattle.sudo_words.specs.declared.cmnd.Cmnd.TheVariants.{All, Path, Dir}
use Rattle.sudo_words.specs.declared.cmnd.ArgRule.{ArgRule}
use Rattle.sudo_words.specs.declared.cmnd.ArgRule.TheVariants.{Any, Empty, Exactly}

-- Which arguments a path's rule allows: any, none, or exactly these.
abbrev pub allows : ArgRule → List (List ℕ) → Bool
allows Any args = true
allows Empty args = length args == 0
allows (Exactly wanted) args = pointwise bytes_eq args wanted

-- A path is directly in a directory if it is the directory's path, which ends in a slash, and one
-- component (`directory_and_component` says so).
abbrev pub is_directly_in : List ℕ → List ℕ → Bool
is_directly_in dir path =
    bytes_eq (take (length dir) path) dir && is_component (drop (length dir) path)

-- Whether a command matches a path that is run with these arguments.
abbrev pub matches : Cmnd → List ℕ → List (List ℕ) → Bool
matches All path args = true
matches (Path file rule) path args = bytes_eq path file && allows rule args
matches (Dir dir) path args = is_directly_in dir path

-- ---- texts: a path, and its arguments after single spaces

-- an argument's text has a backslash before `,`, `:` and `=`
abbrev pub is_escaped : ℕ → Bool
is_escaped b = (b == comma) || (b == colon) || (b == equals)

abbrev pub escaped_byte : ℕ → List ℕ
escaped_byte b = if is_escaped b then backslash ∷ b ∷ [] else b ∷ []

abbrev pub arg_text : List ℕ → List ℕ
arg_text arg = flat_map escaped_byte arg

abbrev pub spaced_arg : List ℕ → List ℕ
spaced_arg arg = space ∷ arg_text arg

-- what stands after a path: nothing where any arguments are allowed, `""` where none is, else the
-- arguments
abbrev pub arg_rule_text : ArgRule → List ℕ
arg_rule_text Any = []
arg_rule_text Empty = codes " \"\""
arg_rule_text (Exactly args) = flat_map spaced_arg args

-- a command is its head, which is `ALL`, a file or a directory, and its rule for the arguments
abbrev pub head_text : Cmnd → List ℕ
head_text All = codes "ALL"
head_text (Path file rule) = file
head_text (Dir dir) = dir

abbrev pub rule_of : Cmnd → ArgRule
rule_of All = Any
rule_of (Path file rule) = rule
rule_of (Dir dir) = Any

-- the one text of a lawful command
abbrev pub cmnd_text : Cmnd → List ℕ
cmnd_text cmnd = head_text cmnd ++ arg_rule_text (rule_of cmnd)

-- ---- The commands that policies hold: `ALL`, a directory, or a file with a rule for its
-- arguments.

-- a path has at most so many bytes
abbrev pub most_path_bytes : ℕ
most_path_bytes = 255

-- a rule lists at most so many arguments
abbrev pub most_args : ℕ
most_args = 16

-- a command's text, with its backslashes, has at most so many bytes
abbrev pub most_cmnd_bytes : ℕ
most_cmnd_bytes = 1024

-- a path keeps its limit, and is not a file that sudo takes for its own command `sudoedit`
abbrev pub IsHead : Cmnd → Type 0
IsHead All = Unit {0}
IsHead (Path file rule) =
    (is_file_path file ≡ true) × (length file ≤ most_path_bytes) × (is_sudoedit file ≡ false)
IsHead (Dir dir) = (is_dir_path dir ≡ true) × (length dir ≤ most_path_bytes)

-- where arguments are listed, at least one, and not too many
abbrev pub IsArgRule : ArgRule → Type 0
IsArgRule Any = Unit {0}
IsArgRule Empty = Unit {0}
IsArgRule (Exactly args) =
    AllByRecursion (λ arg. is_arg arg ≡ true) args × (1 ≤ length args) × (length args ≤ most_args)

-- The path, the arguments and the text keep their limits, and no file is `sudoedit`.
pub record IsLawful (cmnd : Cmnd) : Type 0 where
  pub head : IsHead cmnd
  pub args : IsArgRule (rule_of cmnd)
  pub short : length (cmnd_text cmnd) ≤ most_cmnd_bytes
