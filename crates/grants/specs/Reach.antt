-- What a command reaches, and which commands reach no further than another.
use Rattle.std.specs.Prelude.{◌≡◌, ℕ, ◌≤◌, true, false, List, length}
use Rattle.std.specs.List.{AllByRecursion}
use Rattle.sudo_words.specs.Word.{is_file_path, is_sudoedit, is_arg}
use Rattle.sudo_words.specs.Command.{matches}
use Rattle.sudo_words.specs.declared.cmnd.Cmnd.{Cmnd}

-- the arguments of an invocation
abbrev pub AreArgs : List (List ℕ) → Type 0
AreArgs args = AllByRecursion (λ arg. is_arg arg ≡ true) args

-- The command reaches a path with arguments: somebody may run them, and the command matches them
-- (sudoers(5), "Command arguments").
pub record Reaches (cmnd : Cmnd) (path : List ℕ) (args : List (List ℕ)) : Type 0 where
  pub path_is : is_file_path path ≡ true
  pub args_are : AreArgs args
  pub matches_it : matches cmnd path args ≡ true

-- The inner command lies inside the outer: whatever the inner reaches, the outer reaches too.
abbrev pub LiesInside : (inner outer : Cmnd) → Type 0
LiesInside inner outer =
    (path : List ℕ) (args : List (List ℕ)) → Reaches inner path args → Reaches outer path args

-- The command reaches something, with at most 64 arguments, as many as `desk decide` takes; and
-- sudo does not take its path for its own command.
pub record ReachesSomething (cmnd : Cmnd) : Type 0 where
  pub path : List ℕ
  pub args : List (List ℕ)
  pub few : length args ≤ 64
  pub reached : Reaches cmnd path args
  pub plain : is_sudoedit path ≡ false

-- something such that the inner command reaches, and the outer does not match
pub record ReachesBeyond (inner outer : Cmnd) : Type 0 where
  pub something : ReachesSomething inner
  pub not_matched : matches outer something.path something.args ≡ false
