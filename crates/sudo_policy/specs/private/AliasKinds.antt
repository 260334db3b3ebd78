-- What is kept beside a policy's entries: its aliases, its weight and the length of its text. For
-- private clauses.
use Rattle.std.specs.Prelude.{◌≡◌, ℕ, ◌+◌, List, [], ◌∷◌, ◌++◌, length, reverse, Option, IfSome}
use Rattle.std.specs.List.{flat_map}
use Rattle.sudo_policy.specs.declared.entry.Signed.{Signed}
use Rattle.sudo_policy.specs.declared.entry.Rule.{Rule}
use Rattle.sudo_policy.specs.declared.entry.Entry.{Entry}
use Rattle.sudo_policy.specs.declared.tree.Definition.{Definition}
use Rattle.sudo_policy.specs.declared.aliases.Aliases.{Aliases}
use Rattle.sudo_policy.specs.declared.alias_kinds.AliasKinds.{AliasKinds}
use Rattle.sudo_policy.specs.declared.draft.Draft.{Draft}
use Rattle.sudo_policy.specs.Text.{Text}
use Rattle.sudo_policy.specs.Alias.{DefinedAt, is_defined, item_alias, cmnd_alias}
use Rattle.sudo_policy.specs.Alias.{list_weight, alias_weight, alias_depth}
use Rattle.sudo_policy.specs.Alias.{user_def, runas_def, host_def, cmnd_def}
use Rattle.sudo_policy.specs.private.Measures.{alias_at, has, weight_in}
use Rattle.sudo_policy.specs.private.Measures.{depth_in, stopped, KnowsAll}
use Rattle.sudo_policy.specs.Policy.{IsPolicy, weight}
use Rattle.sudo_policy.specs.Printing.{canon}

-- what is kept for each alias agrees with these definitions
pub record IsTable {X : Type 0} (alias_of : X → Option Text)
    (defs : List (Definition X)) (m : Aliases) : Type 0 where
  pub has_those : (name : Text) → has m name ≡ is_defined defs name
  pub weighs : (name : Text) → weight_in m name ≡ stopped (alias_weight alias_of defs name)
  pub deep : (name : Text) → depth_in m name ≡ alias_depth alias_of defs name

-- each alias is kept with the place of its definition
abbrev pub ArePlaces : {X : Type 0} → (Entry → List (Definition X)) → List Entry → Aliases → Type 0
ArePlaces {X} def es m = (name : Text)
    → IfSome (alias_at m name) (λ a. (list : List (Signed X)) × DefinedAt def es a.place name list)

pub record IsKind {X : Type 0} (def : Entry → List (Definition X))
    (alias_of : X → Option Text) (es : List Entry) (m : Aliases) : Type 0 where
  pub table : IsTable alias_of (flat_map def (reverse es)) m
  pub places : ArePlaces def es m

-- what is kept for the aliases of all kinds agrees with these entries
pub record AreAliasKinds (es : List Entry) (s : AliasKinds) : Type 0 where
  pub users : IsKind user_def item_alias es s.users
  pub runas : IsKind runas_def item_alias es s.runas
  pub hosts : IsKind host_def item_alias es s.hosts
  pub cmnds : IsKind cmnd_def cmnd_alias es s.cmnds

-- each alias in the rule is kept in the kind of its place
pub record RuleIsKnown (s : AliasKinds) (r : Rule) : Type 0 where
  pub users : KnowsAll item_alias (has s.users) r.users
  pub hosts : KnowsAll item_alias (has s.hosts) r.hosts
  pub runas : KnowsAll item_alias (has s.runas) r.runas
  pub cmnd : KnowsAll cmnd_alias (has s.cmnds) (r.cmnd ∷ [])

-- the weight of a rule, from the weights that are kept
abbrev pub rule_weight_in : AliasKinds → Rule → ℕ
rule_weight_in s r =
    list_weight item_alias (weight_in s.users) r.users
    + list_weight item_alias (weight_in s.hosts) r.hosts
    + list_weight item_alias (weight_in s.runas) r.runas
    + list_weight cmnd_alias (weight_in s.cmnds) (r.cmnd ∷ [])

-- the entries are a policy, and what is kept beside them agrees with them
pub record IsWhole (es : List Entry) (s : AliasKinds) (weighs : ℕ) (text_len : ℕ) : Type 0 where
  pub policy : IsPolicy es
  pub scope : AreAliasKinds es s
  pub weight_is : weighs ≡ weight es
  pub text_is : text_len ≡ length (canon es)

abbrev pub IsDraft : Draft → Type 0
IsDraft d = IsWhole d.entries.items d.scope d.weight d.text_len

-- the draft has these entries added at its end
pub record Adds (old new : Draft) (es : List Entry) : Type 0 where
  pub draft : IsDraft new
  pub entries : new.entries.items ≡ old.entries.items ++ es
