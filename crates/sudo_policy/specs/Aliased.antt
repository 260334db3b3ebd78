-- What an alias of a policy weighs, and how deep it is, by all of the policy's definitions of its
-- kind (sudoers(5), "Aliases").
use Rattle.std.specs.Prelude.{◌≡◌, ℕ, ◌+◌, List, reverse, Option}
use Rattle.std.specs.List.{flat_map}
use Rattle.sudo_policy.specs.declared.entry.Signed.{Signed}
use Rattle.sudo_policy.specs.declared.entry.Entry.{Entry}
use Rattle.sudo_policy.specs.declared.tree.Definition.{Definition}
use Rattle.sudo_policy.specs.Text.{Text}
use Rattle.sudo_policy.specs.Alias.{DefinedAt, list_weight, alias_weight, list_depth, alias_depth}

-- `NAME = LIST`: the alias weighs what its list weighs, and is 1 deeper than the deepest alias in
-- it
pub record WeighsItsList {X : Type 0} (alias_of : X → Option Text)
    (defs : List (Definition X)) (name : Text) (list : List (Signed X)) : Type 0 where
  pub weight :
      alias_weight alias_of defs name ≡ list_weight alias_of (alias_weight alias_of defs) list
  pub depth :
      alias_depth alias_of defs name ≡ 1 + list_depth alias_of (alias_depth alias_of defs) list

-- this holds for each alias of a kind, wherever the entries define it, by all of their definitions
-- of the kind
abbrev pub EachWeighsItsList : {X : Type 0} → (X → Option Text)
    → (Entry → List (Definition X)) → List Entry → Type 0
EachWeighsItsList {X} alias_of def es =
    (place : ℕ) (name : Text) (list : List (Signed X)) → DefinedAt def es place name list
    → WeighsItsList alias_of (flat_map def (reverse es)) name list
