-- A policy has at most as many users as its text has bytes, and so with hosts, targets and commands.
use Rattle.std.proofs.Common.{ℕ, ◌+◌, ◌^◌, ◌<◌, ◌≤◌, List, [], ◌∷◌, ◌++◌, length, arith, length-append}
use Rattle.std.specs.Prelude.{codes}
use Rattle.std.specs.List.{flat_map}
use Rattle.sudo_policy.specs.declared.entry.Signed.{Signed}
use Rattle.sudo_policy.specs.declared.entry.Item.{Item}
use Rattle.sudo_policy.specs.declared.entry.Item.TheVariants as items
use Rattle.sudo_policy.specs.declared.entry.CmndItem.{CmndItem}
use Rattle.sudo_policy.specs.declared.entry.CmndItem.TheVariants as cmnd_items
use Rattle.sudo_policy.specs.declared.entry.Entry.{Entry}
use Rattle.sudo_policy.specs.declared.entry.Entry.TheVariants as entries
use Rattle.sudo_policy.specs.Policy.{IsPolicy}
use Rattle.sudo_policy.specs.Printing.{canon, line_text, alias_text, what_text, names_text, cmnds_text}
use Rattle.sudo_policy.specs.Printing.{comma_separated, tail_text, signed_text, item_text, cmnd_item_text}
use Rattle.sudo_beyond.specs.Standing.{item_names, names_in, cmnd_in, cmnds_in, users_of, hosts_of, runas_of, cmnds_of, users, hosts, runas, commands}
use Rattle.sudo_beyond.proofs.OneCase.{IsCounted}
use Rattle.sudo_beyond.proofs.CmndCases.{short_flat}

-- ---- lists

tail_long : {X : Type 0} (f : X → List ℕ) (xs : List X) → length xs ≤ length (tail_text f xs)
tail_long f [] = omega arith
tail_long f (x ∷ xs) = omega (arith, length-append (f x) (tail_text f xs), tail_long f xs)

list_long : {X : Type 0} (f : X → List ℕ) (xs : List X) → length xs ≤ length (comma_separated f xs) + 1
list_long f [] = omega arith
list_long f (x ∷ xs) = omega (arith, length-append (f x) (tail_text f xs), tail_long f xs)

-- ---- entries

alias_long : {X : Type 0} (kind name text : List ℕ) (xs : List X) → length xs ≤ length text + 1 → length xs ≤ length (alias_text kind name text ++ 10 ∷ [])
alias_long kind name text xs long = simp length-append (omega arith)

rule_long : {X : Type 0} (users hosts runas what : List ℕ) (xs : List X) → length xs ≤ length users + length hosts + length runas + 1
    → length xs ≤ length (users ++ codes " " ++ hosts ++ codes " = (" ++ runas ++ codes ") " ++ what ++ 10 ∷ [])
rule_long users hosts runas what xs long = simp length-append (omega arith)

users_long : (e : Entry) → length (users_of e) ≤ length (line_text e)
users_long (entries.UserAlias name list) = alias_long (codes "User_Alias") name (names_text list) list (list_long (signed_text item_text) list)
users_long (entries.RunasAlias name list) = omega arith
users_long (entries.HostAlias name list) = omega arith
users_long (entries.CmndAlias name list) = omega arith
users_long (entries.Rule r) =
    rule_long (names_text r.users) (names_text r.hosts) (names_text r.runas) (what_text r) r.users (omega (arith, list_long (signed_text item_text) r.users))

hosts_long : (e : Entry) → length (hosts_of e) ≤ length (line_text e)
hosts_long (entries.UserAlias name list) = omega arith
hosts_long (entries.RunasAlias name list) = omega arith
hosts_long (entries.HostAlias name list) = alias_long (codes "Host_Alias") name (names_text list) list (list_long (signed_text item_text) list)
hosts_long (entries.CmndAlias name list) = omega arith
hosts_long (entries.Rule r) =
    rule_long (names_text r.users) (names_text r.hosts) (names_text r.runas) (what_text r) r.hosts (omega (arith, list_long (signed_text item_text) r.hosts))

runas_long : (e : Entry) → length (runas_of e) ≤ length (line_text e)
runas_long (entries.UserAlias name list) = omega arith
runas_long (entries.RunasAlias name list) = alias_long (codes "Runas_Alias") name (names_text list) list (list_long (signed_text item_text) list)
runas_long (entries.HostAlias name list) = omega arith
runas_long (entries.CmndAlias name list) = omega arith
runas_long (entries.Rule r) =
    rule_long (names_text r.users) (names_text r.hosts) (names_text r.runas) (what_text r) r.runas (omega (arith, list_long (signed_text item_text) r.runas))

cmnds_long : (e : Entry) → length (cmnds_of e) ≤ length (line_text e)
cmnds_long (entries.UserAlias name list) = omega arith
cmnds_long (entries.RunasAlias name list) = omega arith
cmnds_long (entries.HostAlias name list) = omega arith
cmnds_long (entries.CmndAlias name list) = alias_long (codes "Cmnd_Alias") name (cmnds_text list) list (list_long (signed_text cmnd_item_text) list)
cmnds_long (entries.Rule r) = rule_long (names_text r.users) (names_text r.hosts) (names_text r.runas) (what_text r) (r.cmnd ∷ []) (omega arith)

-- ---- policies

one_name : (item : Item (List ℕ)) → length (item_names item) ≤ 1
one_name items.All = omega arith
one_name (items.Name name) = omega arith
one_name (items.Alias name) = omega arith

one_cmnd : (item : CmndItem) → length (cmnd_in item) ≤ 1
one_cmnd (cmnd_items.Alias name) = omega arith
one_cmnd (cmnd_items.Cmnd cmnd) = omega arith

pub flat_long : {X Y Z : Type 0} (f : X → List Y) (g : X → List Z) (xs : List X)
    → ((x : X) → length (f x) ≤ length (g x)) → length (flat_map f xs) ≤ length (flat_map g xs)
flat_long f g [] long = omega arith
flat_long f g (x ∷ xs) long = omega (arith, length-append (f x) (flat_map f xs), length-append (g x) (flat_map g xs), long x, flat_long f g xs long)

names_long : (list : List (Signed (Item (List ℕ)))) → length (names_in list) ≤ length list
names_long list = short_flat (λ s. item_names s.item) list (λ s. one_name s.item)

cmnds_few : (list : List (Signed CmndItem)) → length (cmnds_in list) ≤ length list
cmnds_few list = short_flat (λ s. cmnd_in s.item) list (λ s. one_cmnd s.item)

both_short : {Y : Type 0} (xs ys : List Y) (m n : ℕ) → length xs ≤ m → length ys ≤ n → m ≤ 16_777_216 → n ≤ 16_777_216 → length (xs ++ ys) < 2 ^ 64
both_short xs ys m n few_x few_y short_m short_n = omega (arith, length-append xs ys)

pub is_counted : (a b : List Entry) → IsPolicy a → IsPolicy b → IsCounted a b
is_counted a b is_a is_b = record {
  users = both_short (users a) (users b) (length (canon a)) (length (canon b)) (few_users a) (few_users b) is_a.short is_b.short;
  hosts = both_short (hosts a) (hosts b) (length (canon a)) (length (canon b)) (few_hosts a) (few_hosts b) is_a.short is_b.short;
  runas = both_short (runas a) (runas b) (length (canon a)) (length (canon b)) (few_runas a) (few_runas b) is_a.short is_b.short;
  commands = both_short (commands a) (commands b) (length (canon a)) (length (canon b)) (few_cmnds a) (few_cmnds b) is_a.short is_b.short;
}
  where
    few_users : (es : List Entry) → length (users es) ≤ length (canon es)
    few_users es = flat_long (λ e. names_in (users_of e)) line_text es (λ e. omega (arith, names_long (users_of e), users_long e))

    few_hosts : (es : List Entry) → length (hosts es) ≤ length (canon es)
    few_hosts es = flat_long (λ e. names_in (hosts_of e)) line_text es (λ e. omega (arith, names_long (hosts_of e), hosts_long e))

    few_runas : (es : List Entry) → length (runas es) ≤ length (canon es)
    few_runas es = flat_long (λ e. names_in (runas_of e)) line_text es (λ e. omega (arith, names_long (runas_of e), runas_long e))

    few_cmnds : (es : List Entry) → length (commands es) ≤ length (canon es)
    few_cmnds es = flat_long (λ e. cmnds_in (cmnds_of e)) line_text es (λ e. omega (arith, cmnds_few (cmnds_of e), cmnds_long e))
