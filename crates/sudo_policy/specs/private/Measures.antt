-- What is kept for the aliases of a kind, and what a list measures by it. For private clauses.
use Rattle.std.specs.Prelude.{◌≡◌, ℕ, ◌+◌, ◌≤◌, min, Bool, true, false, List, Option, Some, IfSome}
use Rattle.std.specs.List.{AllByRecursion}
use Rattle.std.specs.Option.{is_some, option_map_or}
use Rattle.std.specs.Map.{update}
use Rattle.std.specs.HashMap.{get_by_text}
use Rattle.std.specs.Str.{bytes_eq}
use Rattle.sudo_policy.specs.declared.entry.Signed.{Signed}
use Rattle.sudo_policy.specs.declared.aliases.Measure.{Measure}
use Rattle.sudo_policy.specs.declared.aliases.Alias.{Alias}
use Rattle.sudo_policy.specs.declared.aliases.Aliases.{Aliases}
use Rattle.sudo_policy.specs.Limits.{most_weight, most_depth}
use Rattle.sudo_policy.specs.Text.{Text}
use Rattle.sudo_policy.specs.Alias.{list_weight, item_weight, depth_of, list_depth, item_depth}

-- a weight, but at most one more than the greatest weight of a policy
abbrev pub stopped : ℕ → ℕ
stopped n = min n (most_weight + 1)

abbrev pub alias_at : Aliases → Text → Option Alias
alias_at m name = get_by_text m.known name

abbrev pub has : Aliases → Text → Bool
has m name = is_some (alias_at m name)

-- the weight and the depth that are kept for an alias, and 0 if the name is none of these
abbrev pub weight_in : Aliases → Text → ℕ
weight_in m name = option_map_or (λ a. a.measure.weight) (alias_at m name) 0

abbrev pub depth_in : Aliases → Text → ℕ
depth_in m name = option_map_or (λ a. a.measure.depth) (alias_at m name) 0

-- ---- an item, given by the name of its alias, if it is one

abbrev pub IsItemKnown : (Text → Bool) → Option Text → Type 0
IsItemKnown test alias = IfSome alias (λ name. test name ≡ true)

pub record IsItemMeasured (m : Aliases) (alias : Option Text) (a : Measure) : Type 0 where
  pub knows : IsItemKnown (has m) alias
  pub weight : a.weight ≡ item_weight (weight_in m) alias
  pub depth : a.depth ≡ item_depth (depth_in m) alias

abbrev pub IsItemUnmeasured : Aliases → Option Text → Type 0
IsItemUnmeasured m alias = IsItemKnown (has m) alias → ⊥

-- ---- a list

-- each alias of the list passes
abbrev pub KnowsAll : {X : Type 0} → (X → Option Text) → (Text → Bool) → List (Signed X) → Type 0
KnowsAll alias_of test list =
    AllByRecursion (λ s. IfSome (alias_of s.item) (λ name. test name ≡ true)) list

pub record IsMeasured {X : Type 0} (alias_of : X → Option Text)
    (m : Aliases) (list : List (Signed X)) (a : Measure) : Type 0 where
  pub knows : KnowsAll alias_of (has m) list
  pub weight : a.weight ≡ stopped (list_weight alias_of (weight_in m) list)
  pub depth : a.depth ≡ list_depth alias_of (depth_in m) list

abbrev pub IsUnmeasured : {X : Type 0} → (X → Option Text) → Aliases → List (Signed X) → Type 0
IsUnmeasured alias_of m list = KnowsAll alias_of (has m) list → ⊥

-- ---- definitions

-- the alias is new, each alias in its list is kept, and its depth is within the limit
pub record IsDefinable {X : Type 0} (alias_of : X → Option Text)
    (m : Aliases) (name : Text) (list : List (Signed X)) : Type 0 where
  pub new : has m name ≡ false
  pub knows : KnowsAll alias_of (has m) list
  pub shallow : depth_of alias_of (depth_in m) list ≤ most_depth

-- what is kept for an alias
pub record IsKept {X : Type 0} (alias_of : X → Option Text) (m : Aliases)
    (place : ℕ) (list : List (Signed X)) (a : Alias) : Type 0 where
  pub place_is : a.place ≡ place
  pub weight : a.measure.weight ≡ stopped (list_weight alias_of (weight_in m) list)
  pub depth : a.measure.depth ≡ depth_of alias_of (depth_in m) list

-- the alias is added, and the others stay
pub record Defines {X : Type 0} (alias_of : X → Option Text)
    (old new : Aliases) (name : Text) (place : ℕ) (list : List (Signed X)) : Type 0 where
  pub definable : IsDefinable alias_of old name list
  pub alias : Alias
  pub kept : IsKept alias_of old place list alias
  pub updates : (n : Text) → alias_at new n ≡ update bytes_eq (alias_at old) name (Some alias) n
