-- The aliases that rules use, directly or through other aliases.
use Rattle.std.specs.Prelude.{◌≡◌, refl, ℕ, Bool, true, not, ◌&&◌, ◌||◌}
use Rattle.std.specs.Prelude.{List, [], ◌∷◌, Option, None, Some}
use Rattle.std.specs.HashSet.{contains_text}
use Rattle.std.specs.List.{list_all}
use Rattle.sudo_policy.specs.Alias.{item_alias, cmnd_alias}
use Rattle.sudo_policy.specs.Text.{Text}
use Rattle.sudo_policy.specs.declared.entry.CmndItem.{CmndItem}
use Rattle.sudo_policy.specs.declared.entry.CmndItem.TheVariants as cmnds
use Rattle.sudo_policy.specs.declared.entry.Entry.{Entry}
use Rattle.sudo_policy.specs.declared.entry.Entry.TheVariants as entries
use Rattle.sudo_policy.specs.declared.entry.Item.{Item}
use Rattle.sudo_policy.specs.declared.entry.Item.TheVariants as items
use Rattle.sudo_policy.specs.declared.entry.Rule.{Rule}
use Rattle.sudo_policy.specs.declared.entry.Signed.{Signed}
use Rattle.sudo_decide.specs.Decision.{item_answer, cmnd_answer}
use Rattle.sudo_compiled.specs.declared.used.NameSet.{NameSet}
use Rattle.sudo_compiled.specs.declared.used.Used.{Used}

-- the name is one of these
abbrev pub has : NameSet → List ℕ → Bool
has names name = names.all || contains_text names.names name

-- the item, given by the name of its alias if it is one, is one of these or not an alias
abbrev pub is_item_used : NameSet → Option (List ℕ) → Bool
is_item_used names None = true
is_item_used names (Some name) = has names name

abbrev pub is_list_used : {X : Type 0} → (X → Option (List ℕ)) → NameSet → List (Signed X) → Bool
is_list_used alias_of names list = list_all (λ s. is_item_used names (alias_of s.item)) list

-- if the alias is one of these, so is each alias in its list
abbrev pub is_alias_used : {X : Type 0} → (X → Option (List ℕ))
    → NameSet → List ℕ → List (Signed X) → Bool
is_alias_used alias_of names name list = not (has names name) || is_list_used alias_of names list

abbrev pub is_rule_used : Used → Rule → Bool
is_rule_used used r = is_list_used item_alias used.users r.users
    && is_list_used item_alias used.hosts r.hosts && is_list_used item_alias used.runas r.runas
    && is_list_used cmnd_alias used.cmnds (r.cmnd ∷ [])

abbrev pub is_entry_used : Used → Entry → Bool
is_entry_used used (entries.UserAlias name list) = is_alias_used item_alias used.users name list
is_entry_used used (entries.RunasAlias name list) = is_alias_used item_alias used.runas name list
is_entry_used used (entries.HostAlias name list) = is_alias_used item_alias used.hosts name list
is_entry_used used (entries.CmndAlias name list) = is_alias_used cmnd_alias used.cmnds name list
is_entry_used used (entries.Rule rule) = is_rule_used used rule

-- ---- an item depends on its own alias alone

-- the two say the same about the alias, if there is one
abbrev pub AgreeAt : (List ℕ → Option Bool) → (List ℕ → Option Bool) → Option (List ℕ) → Type 0
AgreeAt f g None = Unit {0}
AgreeAt f g (Some name) = f name ≡ g name

pub names_local : (asked : List ℕ) (f g : List ℕ → Option Bool) (item : Item Text)
    → AgreeAt f g (item_alias item) → item_answer f asked item ≡ item_answer g asked item
names_local asked f g items.All same = refl
names_local asked f g (items.Name name) same = refl
names_local asked f g (items.Alias name) same = same

pub cmnds_local : (path : List ℕ) (args : List (List ℕ)) (f g : List ℕ → Option Bool)
    (item : CmndItem) → AgreeAt f g (cmnd_alias item)
    → cmnd_answer f path args item ≡ cmnd_answer g path args item
cmnds_local path args f g (cmnds.Alias name) same = same
cmnds_local path args f g (cmnds.Cmnd cmnd) same = refl
