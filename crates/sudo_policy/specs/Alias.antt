-- Aliases: what an alias is by its definition, and the weight and depth of a list (sudoers(5),
-- "Aliases"). Definitions are listed from the nearest to the farthest above.
use Rattle.std.specs.Prelude.{◌≡◌, ℕ, ◌+◌, max, Bool, true, List, [], ◌∷◌}
use Rattle.std.specs.Prelude.{sum_by, Option, Some, None, IfSome, if◌then◌else◌}
use Rattle.std.specs.List.{AllByRecursion, flat_map, list_any, slice_get}
use Rattle.std.specs.Option.{option_map}
use Rattle.std.specs.Str.{bytes_eq}
use Rattle.sudo_policy.specs.declared.entry.Signed.{Signed}
use Rattle.sudo_policy.specs.declared.entry.Item.{Item}
use Rattle.sudo_policy.specs.declared.entry.Item.TheVariants as items
use Rattle.sudo_policy.specs.declared.entry.CmndItem.{CmndItem}
use Rattle.sudo_policy.specs.declared.entry.CmndItem.TheVariants as cmnds
use Rattle.sudo_policy.specs.declared.entry.Entry.{Entry}
use Rattle.sudo_policy.specs.declared.entry.Entry.TheVariants as entries
use Rattle.sudo_policy.specs.declared.tree.Definition.{Definition}
use Rattle.sudo_policy.specs.Text.{Text}

-- ---- the definitions of each kind: one name may serve several kinds

abbrev pub user_def : Entry → List (Definition (Item Text))
user_def (entries.UserAlias name list) = record { name = name; list = list } ∷ []
user_def other = []

abbrev pub runas_def : Entry → List (Definition (Item Text))
runas_def (entries.RunasAlias name list) = record { name = name; list = list } ∷ []
runas_def other = []

abbrev pub host_def : Entry → List (Definition (Item Text))
host_def (entries.HostAlias name list) = record { name = name; list = list } ∷ []
host_def other = []

abbrev pub cmnd_def : Entry → List (Definition CmndItem)
cmnd_def (entries.CmndAlias name list) = record { name = name; list = list } ∷ []
cmnd_def other = []

-- the definitions among entries, which are listed from the nearest to the farthest above
abbrev pub user_defs : List Entry → List (Definition (Item Text))
user_defs above = flat_map user_def above

abbrev pub runas_defs : List Entry → List (Definition (Item Text))
runas_defs above = flat_map runas_def above

abbrev pub host_defs : List Entry → List (Definition (Item Text))
host_defs above = flat_map host_def above

abbrev pub cmnd_defs : List Entry → List (Definition CmndItem)
cmnd_defs above = flat_map cmnd_def above

abbrev pub is_defined : {X : Type 0} → List (Definition X) → Text → Bool
is_defined defs name = list_any (λ d. bytes_eq d.name name) defs

-- the entry at a place, counted from 0, defines the alias by this list
abbrev pub DefinedAt : {X : Type 0} → (Entry → List (Definition X))
    → List Entry → ℕ → Text → List (Signed X) → Type 0
DefinedAt def es place name list =
    option_map def (slice_get es place) ≡ Some (record { name = name; list = list } ∷ [])

-- The value of an alias is the value of its list, where each alias in the list has the value that
-- the definitions above this one give it. A name that is not defined has the value `unknown`.
abbrev pub by_definition : {X V : Type 0}
    → ((Text → V) → List (Signed X) → V) → V → List (Definition X) → Text → V
by_definition of_list unknown [] name = unknown
by_definition of_list unknown (d ∷ above) name =
    if bytes_eq d.name name then of_list
    (by_definition of_list unknown above) d.list else by_definition of_list unknown above name

-- the name of the alias, if the item is one
abbrev pub item_alias : Item Text → Option Text
item_alias items.All = None
item_alias (items.Name name) = None
item_alias (items.Alias name) = Some name

abbrev pub cmnd_alias : CmndItem → Option Text
cmnd_alias (cmnds.Alias name) = Some name
cmnd_alias (cmnds.Cmnd cmnd) = None

-- each alias of a list is defined above
abbrev pub KnowsList : {X : Type 0} → (X → Option Text)
    → List (Definition X) → List (Signed X) → Type 0
KnowsList alias_of defs list =
    AllByRecursion (λ s. IfSome (alias_of s.item) (λ name. is_defined defs name ≡ true)) list

-- ---- weight: a name, `ALL` or a command weighs 1, and an alias the sum of its list

abbrev pub item_weight : (Text → ℕ) → Option Text → ℕ
item_weight weigh None = 1
item_weight weigh (Some name) = weigh name

abbrev pub list_weight : {X : Type 0} → (X → Option Text) → (Text → ℕ) → List (Signed X) → ℕ
list_weight alias_of weigh list = sum_by (λ s. item_weight weigh (alias_of s.item)) list

abbrev pub alias_weight : {X : Type 0} → (X → Option Text) → List (Definition X) → Text → ℕ
alias_weight alias_of defs = by_definition (list_weight alias_of) 0 defs

-- ---- depth: an alias is 1 deeper than the deepest alias in its list, and has depth 1 if the list
-- has no alias

abbrev pub item_depth : (Text → ℕ) → Option Text → ℕ
item_depth deep None = 0
item_depth deep (Some name) = deep name

abbrev pub list_depth : {X : Type 0} → (X → Option Text) → (Text → ℕ) → List (Signed X) → ℕ
list_depth alias_of deep [] = 0
list_depth alias_of deep (s ∷ list) =
    max (item_depth deep (alias_of s.item)) (list_depth alias_of deep list)

abbrev pub depth_of : {X : Type 0} → (X → Option Text) → (Text → ℕ) → List (Signed X) → ℕ
depth_of alias_of deep list = 1 + list_depth alias_of deep list

abbrev pub alias_depth : {X : Type 0} → (X → Option Text) → List (Definition X) → Text → ℕ
alias_depth alias_of defs = by_definition (depth_of alias_of) 0 defs
