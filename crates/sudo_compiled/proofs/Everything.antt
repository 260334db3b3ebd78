-- If every name counts as used, so does whatever an entry uses.
use Rattle.std.proofs.Common.{◌≡◌, ℕ, Bool, true, false, not, ◌||◌, List, [], ◌∷◌, Option, None, Some, refl, ap}
use Rattle.std.proofs.lemmas.Bool.{and_from}
use Rattle.std.specs.HashSet.{contains_text}
use Rattle.std.specs.List.{list_all}
use Rattle.sudo_policy.specs.Alias.{item_alias, cmnd_alias}
use Rattle.sudo_policy.specs.declared.entry.Entry.{Entry}
use Rattle.sudo_policy.specs.declared.entry.Entry.TheVariants as entries
use Rattle.sudo_policy.specs.declared.entry.Rule.{Rule}
use Rattle.sudo_policy.specs.declared.entry.Signed.{Signed}
use Rattle.sudo_compiled.specs.declared.used.NameSet.{NameSet}
use Rattle.sudo_compiled.specs.declared.used.Used.{Used}
use Rattle.sudo_compiled.specs.private.Used.{has, is_item_used, is_list_used, is_alias_used, is_rule_used, is_entry_used}

or_second : (a b : Bool) → b ≡ true → (a || b) ≡ true
or_second true b is = refl
or_second false b is = is

item_of_all : (names : NameSet) → names.all ≡ true → (alias : Option (List ℕ)) → is_item_used names alias ≡ true
item_of_all names all None = refl
item_of_all names all (Some n) = ap (λ (b : Bool). b || contains_text names.names n) all

list_of_all : {X : Type 0} (alias_of : X → Option (List ℕ)) (names : NameSet) → names.all ≡ true → (list : List (Signed X))
    → is_list_used alias_of names list ≡ true
list_of_all alias_of names all [] = refl
list_of_all alias_of names all (x ∷ xs) = and_from _ _ (item_of_all names all (alias_of x.item)) (list_of_all alias_of names all xs)

alias_of_all : {X : Type 0} (alias_of : X → Option (List ℕ)) (names : NameSet) → names.all ≡ true → (name : List ℕ) (list : List (Signed X))
    → is_alias_used alias_of names name list ≡ true
alias_of_all alias_of names all name list = or_second (not (has names name)) (is_list_used alias_of names list) (list_of_all alias_of names all list)

module _ (used : Used) (users : used.users.all ≡ true) (runas : used.runas.all ≡ true) (hosts : used.hosts.all ≡ true)
    (cmnds : used.cmnds.all ≡ true) where
  rule_of_all : (r : Rule) → is_rule_used used r ≡ true
  rule_of_all r =
      and_from _ _ (and_from _ _ (and_from _ _ (list_of_all item_alias used.users users r.users) (list_of_all item_alias used.hosts hosts r.hosts))
      (list_of_all item_alias used.runas runas r.runas)) (list_of_all cmnd_alias used.cmnds cmnds (r.cmnd ∷ []))

  entry_of_all : (e : Entry) → is_entry_used used e ≡ true
  entry_of_all (entries.UserAlias name list) = alias_of_all item_alias used.users users name list
  entry_of_all (entries.RunasAlias name list) = alias_of_all item_alias used.runas runas name list
  entry_of_all (entries.HostAlias name list) = alias_of_all item_alias used.hosts hosts name list
  entry_of_all (entries.CmndAlias name list) = alias_of_all cmnd_alias used.cmnds cmnds name list
  entry_of_all (entries.Rule r) = rule_of_all r

  pub entries_of_all : (es : List Entry) → list_all (is_entry_used used) es ≡ true
  entries_of_all [] = refl
  entries_of_all (e ∷ es) = and_from (is_entry_used used e) (list_all (is_entry_used used) es) (entry_of_all e) (entries_of_all es)
