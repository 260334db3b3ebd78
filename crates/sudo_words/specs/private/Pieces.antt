-- The words of a command's text, split at each space.
use Rattle.std.specs.Prelude.{ℕ, List, [], ◌∷◌, map, codes}
use Rattle.sudo_words.specs.declared.cmnd.ArgRule.{ArgRule}
use Rattle.sudo_words.specs.declared.cmnd.ArgRule.TheVariants.{Any, Empty, Exactly}
use Rattle.sudo_words.specs.Command.{arg_text}

-- the words after a path: none where any arguments are allowed, `""` where none is, else the
-- arguments' texts
abbrev pub words_of : ArgRule → List (List ℕ)
words_of Any = []
words_of Empty = codes "\"\"" ∷ []
words_of (Exactly args) = map arg_text args
