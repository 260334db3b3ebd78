-- Which lists of entries are policies: the forms of the grammar, each alias above its use, and the
-- limits.
use Rattle.std.specs.Prelude.{◌≡◌, ℕ, ◌+◌, ◌≤◌, Bool, true, false}
use Rattle.std.specs.Prelude.{List, [], ◌∷◌, length, Option, IfSome}
use Rattle.std.specs.List.{AllByRecursion}
use Rattle.sudo_words.specs.Word.{is_name, is_host_name, is_alias_name}
use Rattle.sudo_words.specs.Moment.{IsMoment}
use Rattle.sudo_words.specs.Command.{IsLawful}
use Rattle.sudo_policy.specs.declared.entry.Signed.{Signed}
use Rattle.sudo_policy.specs.declared.entry.Item.{Item}
use Rattle.sudo_policy.specs.declared.entry.Item.TheVariants as items
use Rattle.sudo_policy.specs.declared.entry.CmndItem.{CmndItem}
use Rattle.sudo_policy.specs.declared.entry.CmndItem.TheVariants as cmnds
use Rattle.sudo_policy.specs.declared.entry.Rule.{Rule}
use Rattle.sudo_policy.specs.declared.entry.Entry.{Entry}
use Rattle.sudo_policy.specs.declared.entry.Entry.TheVariants as entries
use Rattle.sudo_policy.specs.declared.tree.Definition.{Definition}
use Rattle.sudo_policy.specs.Limits.{most_text_bytes, most_entries, most_weight, most_depth}
use Rattle.sudo_policy.specs.Text.{Text}
use Rattle.sudo_policy.specs.Alias.{user_defs, runas_defs, host_defs, cmnd_defs}
use Rattle.sudo_policy.specs.Alias.{is_defined, item_alias, cmnd_alias, KnowsList}
use Rattle.sudo_policy.specs.Alias.{list_weight, alias_weight, depth_of, alias_depth}
use Rattle.sudo_policy.specs.Printing.{canon}

abbrev pub IsItem : (Text → Bool) → Item Text → Type 0
IsItem form items.All = Unit {0}
IsItem form (items.Name name) = form name ≡ true
IsItem form (items.Alias name) = is_alias_name name ≡ true

abbrev pub IsCmndItem : CmndItem → Type 0
IsCmndItem (cmnds.Alias name) = is_alias_name name ≡ true
IsCmndItem (cmnds.Cmnd cmnd) = IsLawful cmnd

-- a list has at least one item, and each has its form
abbrev pub IsList : {X : Type 0} → (X → Type 0) → List (Signed X) → Type 0
IsList Is list = (1 ≤ length list) × AllByRecursion (λ s. Is s.item) list

pub record IsRule (r : Rule) : Type 0 where
  pub users : IsList (IsItem is_name) r.users
  pub hosts : IsList (IsItem is_host_name) r.hosts
  pub runas : IsList (IsItem is_name) r.runas
  pub not_before : IfSome r.not_before IsMoment
  pub not_after : IfSome r.not_after IsMoment
  pub cmnd : IsCmndItem r.cmnd.item

abbrev pub IsEntry : Entry → Type 0
IsEntry (entries.UserAlias name list) = (is_alias_name name ≡ true) × IsList (IsItem is_name) list
IsEntry (entries.RunasAlias name list) = (is_alias_name name ≡ true) × IsList (IsItem is_name) list
IsEntry (entries.HostAlias name list) =
    (is_alias_name name ≡ true) × IsList (IsItem is_host_name) list
IsEntry (entries.CmndAlias name list) = (is_alias_name name ≡ true) × IsList IsCmndItem list
IsEntry (entries.Rule rule) = IsRule rule

-- ---- where an entry may be placed, below the entries above, which are listed from the nearest to
-- the farthest

-- An alias is new in its kind, what its list uses is defined above, and its depth is within the
-- limit.
pub record IsNew {X : Type 0} (alias_of : X → Option Text)
    (defs : List (Definition X)) (name : Text) (list : List (Signed X)) : Type 0 where
  pub new : is_defined defs name ≡ false
  pub knows : KnowsList alias_of defs list
  pub shallow : depth_of alias_of (alias_depth alias_of defs) list ≤ most_depth

-- what a rule uses is defined above, in the kind of its place
pub record KnowsRule (above : List Entry) (r : Rule) : Type 0 where
  pub users : KnowsList item_alias (user_defs above) r.users
  pub hosts : KnowsList item_alias (host_defs above) r.hosts
  pub runas : KnowsList item_alias (runas_defs above) r.runas
  pub cmnd : KnowsList cmnd_alias (cmnd_defs above) (r.cmnd ∷ [])

abbrev pub IsPlaced : List Entry → Entry → Type 0
IsPlaced above (entries.UserAlias name list) = IsNew item_alias (user_defs above) name list
IsPlaced above (entries.RunasAlias name list) = IsNew item_alias (runas_defs above) name list
IsPlaced above (entries.HostAlias name list) = IsNew item_alias (host_defs above) name list
IsPlaced above (entries.CmndAlias name list) = IsNew cmnd_alias (cmnd_defs above) name list
IsPlaced above (entries.Rule rule) = KnowsRule above rule

abbrev pub ArePlaced : List Entry → List Entry → Type 0
ArePlaced above [] = Unit {0}
ArePlaced above (e ∷ es) = IsPlaced above e × ArePlaced (e ∷ above) es

-- ---- limits: a policy's weight is the sum over its rules

abbrev pub rule_weight : List Entry → Rule → ℕ
rule_weight above r =
    list_weight item_alias (alias_weight item_alias (user_defs above)) r.users
    + list_weight item_alias (alias_weight item_alias (host_defs above)) r.hosts
    + list_weight item_alias (alias_weight item_alias (runas_defs above)) r.runas
    + list_weight cmnd_alias (alias_weight cmnd_alias (cmnd_defs above)) (r.cmnd ∷ [])

abbrev pub entry_weight : List Entry → Entry → ℕ
entry_weight above (entries.Rule rule) = rule_weight above rule
entry_weight above alias = 0

abbrev pub weight_below : List Entry → List Entry → ℕ
weight_below above [] = 0
weight_below above (e ∷ es) = entry_weight above e + weight_below (e ∷ above) es

abbrev pub weight : List Entry → ℕ
weight es = weight_below [] es

-- the entries of a policy, in order
pub record IsPolicy (es : List Entry) : Type 0 where
  pub each : AllByRecursion IsEntry es
  pub placed : ArePlaced [] es
  pub count : length es ≤ most_entries
  pub light : weight es ≤ most_weight
  pub short : length (canon es) ≤ most_text_bytes
