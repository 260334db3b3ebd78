-- One case of each list, as a relation by cases.
use Rattle.std.proofs.Common.{◌≡◌, ℕ, ◌^◌, ◌<◌, true, eqb, ◌⊎◌, Option, Some, None, List, [], ◌∷◌, ◌++◌, length}
use Rattle.std.specs.List.{list_any}
use Rattle.sudo_words.specs.Moment.{IsMoment}
use Rattle.sudo_words.specs.declared.cmnd.Cmnd.{Cmnd}
use Rattle.sudo_policy.specs.declared.entry.Rule.{Rule}
use Rattle.sudo_policy.specs.declared.entry.Entry.{Entry}
use Rattle.sudo_decide.specs.declared.invocation.Invocation.{Invocation}
use Rattle.sudo_decide.specs.Reach.{rules_in}
use Rattle.sudo_decide.specs.declared.scope.Scope.{Scope}
use Rattle.sudo_beyond.specs.Standing.{users, hosts, runas, commands}
use Rattle.sudo_beyond.specs.Cases.{IsFirstOther, has_word, paths, dirs, args_with, has_args, turns}

-- the fixed name; or one that stands, or the first other
abbrev pub IsNameCase : Option (List ℕ) → List (List ℕ) → List ℕ → Type 0
IsNameCase (Some fixed) standing x = x ≡ fixed
IsNameCase None standing x = (has_word standing x ≡ true) ⊎ IsFirstOther (has_word standing) x

-- no arguments, some that stand with the path, or one that doesn't
abbrev pub IsArgsCase : List Cmnd → List ℕ → List (List ℕ) → Type 0
IsArgsCase cmnds path args =
    (args ≡ [])
    ⊎ (has_args (args_with path cmnds) args ≡ true)
    ⊎ ((word : List ℕ) × (args ≡ word ∷ []) × IsFirstOther (λ w. has_args (args_with path cmnds) (w ∷ [])) word)

-- a path that stands
abbrev pub IsPathCase : List Cmnd → List ℕ → List (List ℕ) → Type 0
IsPathCase cmnds path args = (has_word (paths cmnds) path ≡ true) × IsArgsCase cmnds path args

-- a file in a directory that stands, which is no path that stands
abbrev pub IsDirCase : List Cmnd → List ℕ → List (List ℕ) → Type 0
IsDirCase cmnds path args =
    (dir : List ℕ) × (word : List ℕ) × (has_word (dirs cmnds) dir ≡ true) × (path ≡ dir ++ word)
    × (args ≡ []) × IsFirstOther (λ w. has_word (paths cmnds) (dir ++ w)) word

-- a file elsewhere
abbrev pub IsRootCase : List Cmnd → List ℕ → List (List ℕ) → Type 0
IsRootCase cmnds path args =
    (word : List ℕ) × (path ≡ 47 ∷ word) × (args ≡ []) × IsFirstOther (λ w. has_word (paths cmnds) (47 ∷ w)) word

abbrev pub IsCmndCase : List Cmnd → List ℕ → List (List ℕ) → Type 0
IsCmndCase cmnds path args = IsPathCase cmnds path args ⊎ IsDirCase cmnds path args ⊎ IsRootCase cmnds path args

abbrev pub IsMomentCase : List Rule → ℕ → Type 0
IsMomentCase rules t = IsMoment t × ((t ≡ 0) ⊎ (list_any (λ turn. eqb turn t) (turns rules) ≡ true))

-- one of each list
pub record IsCase (s : Scope) (a b : List Entry) (i : Invocation) : Type 0 where
  pub user : IsNameCase s.user (users a ++ users b) i.user
  pub host : IsNameCase s.host (hosts a ++ hosts b) i.host
  pub runas : IsNameCase s.runas (runas a ++ runas b) i.runas
  pub cmnd : IsCmndCase (commands a ++ commands b) i.path i.args
  pub at : IsMomentCase (rules_in a ++ rules_in b) i.at

-- there are fewer names and commands than a machine can count
pub record IsCounted (a b : List Entry) : Type 0 where
  pub users : length (users a ++ users b) < 2 ^ 64
  pub hosts : length (hosts a ++ hosts b) < 2 ^ 64
  pub runas : length (runas a ++ runas b) < 2 ^ 64
  pub commands : length (commands a ++ commands b) < 2 ^ 64
