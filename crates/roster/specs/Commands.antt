-- Which commands a ceiling lists.
use Rattle.std.specs.Prelude.{ℕ, Bool, true, false, ◌&&◌, List}
use Rattle.std.specs.Str.{bytes_eq}
use Rattle.std.specs.Cmp.Lexicographic.{pointwise}
use Rattle.sudo_words.specs.declared.cmnd.Cmnd.{Cmnd}
use Rattle.sudo_words.specs.declared.cmnd.Cmnd.TheVariants.{Path, Dir}
use Rattle.sudo_words.specs.declared.cmnd.ArgRule.{ArgRule}
use Rattle.sudo_words.specs.declared.cmnd.ArgRule.TheVariants.{Any, Empty, Exactly}

-- the command is this directory
abbrev pub is_dir : List ℕ → Cmnd → Bool
is_dir dir (Dir d) = bytes_eq d dir
is_dir dir c = false

-- the two rules for arguments are the same
abbrev pub same_rule : ArgRule → ArgRule → Bool
same_rule Any Any = true
same_rule Empty Empty = true
same_rule (Exactly a) (Exactly b) = pointwise bytes_eq a b
same_rule r s = false

-- the command is this file, with this rule for its arguments
abbrev pub is_file : List ℕ → ArgRule → Cmnd → Bool
is_file file rule (Path f r) = bytes_eq f file && same_rule r rule
is_file file rule c = false
