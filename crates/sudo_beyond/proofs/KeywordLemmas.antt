-- No policy has a command that sudo takes for its own, or a name with which sudo begins a command.
use Rattle.std.proofs.Common.{◌≡◌, ℕ, true, false, not, List, ◌++◌, subst}
use Rattle.std.specs.Prelude.{codes}
use Rattle.std.specs.List.{AllByRecursion}
use Rattle.std.proofs.lemmas.Bool.{and_parts, not-true}
use Rattle.sudo_words.specs.Word.{is_name, is_name_shape, is_host_name, is_label, is_keyword}
use Rattle.sudo_words.specs.Command.{IsLawful}
use Rattle.sudo_words.specs.declared.cmnd.ArgRule.{ArgRule}
use Rattle.sudo_words.specs.declared.cmnd.Cmnd.{Cmnd}
use Rattle.sudo_words.specs.declared.cmnd.Cmnd.TheVariants.{Path}
use Rattle.sudo_words.proofs.NameLemmas.{lawful_end}
use Rattle.sudo_policy.specs.declared.entry.Entry.{Entry}
use Rattle.sudo_policy.specs.Policy.{IsEntry}
use Rattle.sudo_beyond.specs.Standing.{names_in, cmnds_in, users_of, hosts_of, runas_of, cmnds_of, users, hosts, runas, commands}
use Rattle.sudo_beyond.proofs.AlikeLemmas.{all_weaker, all_flat}
use Rattle.sudo_beyond.proofs.PolicyForms.{entry_users, entry_hosts, entry_runas, lawful_entry}

no_keyword_name : (w : List ℕ) → is_name w ≡ true → is_keyword w ≡ false
no_keyword_name w h = not-true (is_keyword w) (and_parts (is_name_shape w) (not (is_keyword w)) h).1

no_keyword_host : (w : List ℕ) → is_host_name w ≡ true → is_keyword w ≡ false
no_keyword_host w h = not-true (is_keyword w) (and_parts (is_label w) (not (is_keyword w)) h).1

no_sudoedit : (c : Cmnd) → IsLawful c → (front : List ℕ) (rule : ArgRule) → c ≡ Path (front ++ codes "/sudoedit") rule → ⊥
no_sudoedit c is front rule e = lawful_end front rule (subst IsLawful e is)

pub no_command : (es : List Entry) → AllByRecursion IsEntry es
    → AllByRecursion (λ c. (front : List ℕ) (rule : ArgRule) → c ≡ Path (front ++ codes "/sudoedit") rule → ⊥) (commands es)
no_command es is =
    all_weaker IsLawful (λ c. (front : List ℕ) (rule : ArgRule) → c ≡ Path (front ++ codes "/sudoedit") rule → ⊥) (commands es) no_sudoedit
    (all_flat IsLawful (λ e. cmnds_in (cmnds_of e)) es (all_weaker IsEntry (λ e. AllByRecursion IsLawful (cmnds_in (cmnds_of e))) es lawful_entry is))

pub no_user : (es : List Entry) → AllByRecursion IsEntry es → AllByRecursion (λ w. is_keyword w ≡ false) (users es)
no_user es is =
    all_weaker (λ w. is_name w ≡ true) (λ w. is_keyword w ≡ false) (users es) no_keyword_name (all_flat (λ w. is_name w ≡ true) (λ e. names_in (users_of e)) es
    (all_weaker IsEntry (λ e. AllByRecursion (λ w. is_name w ≡ true) (names_in (users_of e))) es entry_users is))

pub no_host : (es : List Entry) → AllByRecursion IsEntry es → AllByRecursion (λ w. is_keyword w ≡ false) (hosts es)
no_host es is =
    all_weaker (λ w. is_host_name w ≡ true) (λ w. is_keyword w ≡ false) (hosts es) no_keyword_host (all_flat (λ w. is_host_name w ≡ true)
    (λ e. names_in (hosts_of e)) es (all_weaker IsEntry (λ e. AllByRecursion (λ w. is_host_name w ≡ true) (names_in (hosts_of e))) es entry_hosts is))

pub no_target : (es : List Entry) → AllByRecursion IsEntry es → AllByRecursion (λ w. is_keyword w ≡ false) (runas es)
no_target es is =
    all_weaker (λ w. is_name w ≡ true) (λ w. is_keyword w ≡ false) (runas es) no_keyword_name (all_flat (λ w. is_name w ≡ true) (λ e. names_in (runas_of e)) es
    (all_weaker IsEntry (λ e. AllByRecursion (λ w. is_name w ≡ true) (names_in (runas_of e))) es entry_runas is))
