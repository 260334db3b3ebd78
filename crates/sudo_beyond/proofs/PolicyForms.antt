-- What stands in a policy has its form.
use Rattle.std.proofs.Common.{◌≡◌, ℕ, ◌+◌, Bool, true, leb, if◌then◌else◌, Option, Some, None, IfSome, List, [], ◌∷◌, ◌++◌, sym, subst, inl, inr, arith}
use Rattle.std.specs.List.{AllByRecursion, flat_map}
use Rattle.std.specs.Option.{option_to_list}
use Rattle.std.proofs.lemmas.Bool.{cases_Bool, leb-true}
use Rattle.sudo_words.specs.Word.{is_name, is_host_name, is_file_path}
use Rattle.sudo_words.specs.Moment.{IsMoment}
use Rattle.sudo_words.specs.Command.{IsLawful}
use Rattle.sudo_words.specs.declared.cmnd.Cmnd.{Cmnd}
use Rattle.sudo_words.specs.declared.cmnd.Cmnd.TheVariants.{All, Path, Dir}
use Rattle.sudo_policy.specs.declared.entry.Signed.{Signed}
use Rattle.sudo_policy.specs.declared.entry.Item.{Item}
use Rattle.sudo_policy.specs.declared.entry.Item.TheVariants as items
use Rattle.sudo_policy.specs.declared.entry.CmndItem.{CmndItem}
use Rattle.sudo_policy.specs.declared.entry.CmndItem.TheVariants as cmnd_items
use Rattle.sudo_policy.specs.declared.entry.Entry.{Entry}
use Rattle.sudo_policy.specs.declared.entry.Entry.TheVariants as entries
use Rattle.sudo_policy.specs.Policy.{IsEntry, IsItem, IsCmndItem}
use Rattle.sudo_decide.specs.Reach.{rule_in, rules_in}
use Rattle.sudo_beyond.specs.Standing.{item_names, names_in, cmnd_in, cmnds_in, users_of, hosts_of, runas_of, cmnds_of, users, hosts, runas, commands}
use Rattle.sudo_beyond.specs.Cases.{dir_in, dirs, path_in, paths, moment_after, turns_of, turns}
use Rattle.sudo_beyond.specs.private.Gathering.{IsLawfulDir}
use Rattle.sudo_beyond.proofs.AlikeLemmas.{all_weaker, all_append, all_flat}

-- ---- names

name_of : (form : List ℕ → Bool) (item : Item (List ℕ)) → IsItem form item → AllByRecursion (λ name. form name ≡ true) (item_names item)
name_of form items.All is = tt
name_of form (items.Name name) is = (is, tt)
name_of form (items.Alias name) is = tt

names_of : (form : List ℕ → Bool) (list : List (Signed (Item (List ℕ)))) → AllByRecursion (λ s. IsItem form s.item) list
    → AllByRecursion (λ name. form name ≡ true) (names_in list)
names_of form list is =
    all_flat (λ name. form name ≡ true) (λ s. item_names s.item) list
    (all_weaker (λ s. IsItem form s.item) (λ s. AllByRecursion (λ name. form name ≡ true) (item_names s.item)) list (λ s. name_of form s.item) is)

pub entry_users : (e : Entry) → IsEntry e → AllByRecursion (λ name. is_name name ≡ true) (names_in (users_of e))
entry_users (entries.UserAlias name list) is = names_of is_name list is.1.1
entry_users (entries.RunasAlias name list) is = tt
entry_users (entries.HostAlias name list) is = tt
entry_users (entries.CmndAlias name list) is = tt
entry_users (entries.Rule rule) is = names_of is_name rule.users is.users.1

pub entry_runas : (e : Entry) → IsEntry e → AllByRecursion (λ name. is_name name ≡ true) (names_in (runas_of e))
entry_runas (entries.UserAlias name list) is = tt
entry_runas (entries.RunasAlias name list) is = names_of is_name list is.1.1
entry_runas (entries.HostAlias name list) is = tt
entry_runas (entries.CmndAlias name list) is = tt
entry_runas (entries.Rule rule) is = names_of is_name rule.runas is.runas.1

pub entry_hosts : (e : Entry) → IsEntry e → AllByRecursion (λ name. is_host_name name ≡ true) (names_in (hosts_of e))
entry_hosts (entries.UserAlias name list) is = tt
entry_hosts (entries.RunasAlias name list) is = tt
entry_hosts (entries.HostAlias name list) is = names_of is_host_name list is.1.1
entry_hosts (entries.CmndAlias name list) is = tt
entry_hosts (entries.Rule rule) is = names_of is_host_name rule.hosts is.hosts.1

-- what holds of everything in each entry holds of everything in both policies
both_have : {Y : Type 0} (P : Y → Type 0) (has : Entry → List Y) (a b : List Entry) → ((e : Entry) → IsEntry e → AllByRecursion P (has e))
    → AllByRecursion IsEntry a → AllByRecursion IsEntry b → AllByRecursion P (flat_map has a ++ flat_map has b)
both_have P has a b each is_a is_b =
    all_append P (flat_map has a) (flat_map has b)
    (all_flat P has a (all_weaker IsEntry (λ e. AllByRecursion P (has e)) a each is_a))
    (all_flat P has b (all_weaker IsEntry (λ e. AllByRecursion P (has e)) b each is_b))

pub are_users : (a b : List Entry) → AllByRecursion IsEntry a → AllByRecursion IsEntry b → AllByRecursion (λ name. is_name name ≡ true) (users a ++ users b)
are_users a b = both_have (λ name. is_name name ≡ true) (λ e. names_in (users_of e)) a b entry_users

pub are_hosts : (a b : List Entry) → AllByRecursion IsEntry a → AllByRecursion IsEntry b
    → AllByRecursion (λ name. is_host_name name ≡ true) (hosts a ++ hosts b)
are_hosts a b = both_have (λ name. is_host_name name ≡ true) (λ e. names_in (hosts_of e)) a b entry_hosts

pub are_targets : (a b : List Entry) → AllByRecursion IsEntry a → AllByRecursion IsEntry b → AllByRecursion (λ name. is_name name ≡ true) (runas a ++ runas b)
are_targets a b = both_have (λ name. is_name name ≡ true) (λ e. names_in (runas_of e)) a b entry_runas

-- ---- commands

lawful_in : (item : CmndItem) → IsCmndItem item → AllByRecursion IsLawful (cmnd_in item)
lawful_in (cmnd_items.Alias name) is = tt
lawful_in (cmnd_items.Cmnd cmnd) is = (is, tt)

lawful_list : (list : List (Signed CmndItem)) → AllByRecursion (λ s. IsCmndItem s.item) list → AllByRecursion IsLawful (cmnds_in list)
lawful_list list is =
    all_flat IsLawful (λ s. cmnd_in s.item) list
    (all_weaker (λ s. IsCmndItem s.item) (λ s. AllByRecursion IsLawful (cmnd_in s.item)) list (λ s. lawful_in s.item) is)

pub lawful_entry : (e : Entry) → IsEntry e → AllByRecursion IsLawful (cmnds_in (cmnds_of e))
lawful_entry (entries.UserAlias name list) is = tt
lawful_entry (entries.RunasAlias name list) is = tt
lawful_entry (entries.HostAlias name list) is = tt
lawful_entry (entries.CmndAlias name list) is = lawful_list list is.1.1
lawful_entry (entries.Rule rule) is = lawful_list (rule.cmnd ∷ []) (is.cmnd, tt)

pub are_lawful : (a b : List Entry) → AllByRecursion IsEntry a → AllByRecursion IsEntry b → AllByRecursion IsLawful (commands a ++ commands b)
are_lawful a b = both_have IsLawful (λ e. cmnds_in (cmnds_of e)) a b lawful_entry

dir_of : (c : Cmnd) → IsLawful c → AllByRecursion IsLawfulDir (dir_in c)
dir_of All is = tt
dir_of (Path file rule) is = tt
dir_of (Dir dir) is = (is.head, tt)

pub lawful_dirs : (cmnds : List Cmnd) → AllByRecursion IsLawful cmnds → AllByRecursion IsLawfulDir (dirs cmnds)
lawful_dirs cmnds is = all_flat IsLawfulDir dir_in cmnds (all_weaker IsLawful (λ c. AllByRecursion IsLawfulDir (dir_in c)) cmnds dir_of is)

file_of : (c : Cmnd) → IsLawful c → AllByRecursion (λ path. is_file_path path ≡ true) (path_in c)
file_of All is = tt
file_of (Path file rule) is = (is.head.0, tt)
file_of (Dir dir) is = tt

pub lawful_paths : (cmnds : List Cmnd) → AllByRecursion IsLawful cmnds → AllByRecursion (λ path. is_file_path path ≡ true) (paths cmnds)
lawful_paths cmnds is =
    all_flat (λ path. is_file_path path ≡ true) path_in cmnds
    (all_weaker IsLawful (λ c. AllByRecursion (λ path. is_file_path path ≡ true) (path_in c)) cmnds file_of is)

-- ---- dates

begins : (first : Option ℕ) → IfSome first IsMoment → AllByRecursion IsMoment (option_to_list first)
begins None is = tt
begins (Some t) is = (is, tt)

ends : (last : Option ℕ) → AllByRecursion IsMoment (moment_after last)
ends None = tt
ends (Some t) =
    elim (cases_Bool (leb t 4_102_444_798)) [
      | inl some ↦ subst (λ (b : Bool). AllByRecursion IsMoment (if b then (t + 1) ∷ [] else [])) (sym some) (let low = leb-true t 4_102_444_798 some in
          (omega arith, tt))
      | inr none ↦ subst (λ (b : Bool). AllByRecursion IsMoment (if b then (t + 1) ∷ [] else [])) (sym none) tt
    ]

are_rules : (e : Entry) → IsEntry e → AllByRecursion (λ r. AllByRecursion IsMoment (turns_of r)) (rule_in e)
are_rules (entries.UserAlias name list) is = tt
are_rules (entries.RunasAlias name list) is = tt
are_rules (entries.HostAlias name list) is = tt
are_rules (entries.CmndAlias name list) is = tt
are_rules (entries.Rule r) is =
    (all_append IsMoment (option_to_list r.not_before) (moment_after r.not_after) (begins r.not_before is.not_before) (ends r.not_after), tt)

pub are_turns : (a b : List Entry) → AllByRecursion IsEntry a → AllByRecursion IsEntry b → AllByRecursion IsMoment (turns (rules_in a ++ rules_in b))
are_turns a b is_a is_b =
    all_flat IsMoment turns_of (rules_in a ++ rules_in b) (both_have (λ r. AllByRecursion IsMoment (turns_of r)) rule_in a b are_rules is_a is_b)
