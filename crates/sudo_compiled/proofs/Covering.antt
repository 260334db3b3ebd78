-- What is known of the aliases that rules use covers the rules.
use Rattle.std.proofs.Common.{◌≡◌, ℕ, zero, suc, ◌<◌, Bool, true, List, [], ◌∷◌, length, get_or, arith}
use Rattle.std.proofs.lemmas.Bool.{and_parts}
use Rattle.std.specs.List.{AllByRecursion, list_all}
use Rattle.sudo_policy.specs.Alias.{item_alias, cmnd_alias, user_defs, runas_defs, host_defs, cmnd_defs}
use Rattle.sudo_policy.specs.declared.entry.Entry.{Entry}
use Rattle.sudo_policy.specs.declared.entry.Entry.TheVariants as entries
use Rattle.sudo_policy.specs.declared.entry.Rule.{Rule}
use Rattle.sudo_decide.specs.Decision.{item_answer, cmnd_answer}
use Rattle.sudo_compiled.specs.Compiled.{plain_answer, match_answer}
use Rattle.sudo_compiled.specs.declared.aliases.Aliases.{Aliases}
use Rattle.sudo_compiled.specs.declared.used.Used.{Used}
use Rattle.sudo_compiled.specs.private.Used.{is_rule_used, is_entry_used, names_local, cmnds_local}
use Rattle.sudo_compiled.specs.private.Writing.{AreKnown, Covers, CoversEntry}
use Rattle.sudo_compiled.proofs.WrittenLists.{stands_list}

pub true_at : {X : Type 0} (p : X → Bool) (xs : List X) (i : ℕ) (d : X) → list_all p xs ≡ true → i < length xs → p (get_or xs i d) ≡ true
true_at p [] i d all h = absurd (omega arith)
true_at p (x ∷ xs) zero d all h = (and_parts (p x) (list_all p xs) all).0
true_at p (x ∷ xs) (suc i) d all h = true_at p xs i d (and_parts (p x) (list_all p xs) all).1 (omega arith)

module _ (used : Used) (defined : List Entry) (known : Aliases) (are : AreKnown used defined known) where
  covers_rule : (r : Rule) → is_rule_used used r ≡ true → Covers defined known r
  covers_rule r all =
      let three = and_parts _ _ all in
      let two = and_parts _ _ three.0 in
      let one = and_parts _ _ two.0 in
      record {
        users = stands_list item_alias (λ i x. plain_answer i.user x) (λ i says item. item_answer says i.user item) used.users (user_defs defined)
            known.users r.users (λ i f g item. names_local i.user f g item) one.0 are.users;
        hosts = stands_list item_alias (λ i x. plain_answer i.host x) (λ i says item. item_answer says i.host item) used.hosts (host_defs defined)
            known.hosts r.hosts (λ i f g item. names_local i.host f g item) one.1 are.hosts;
        runas = stands_list item_alias (λ i x. plain_answer i.runas x) (λ i says item. item_answer says i.runas item) used.runas (runas_defs defined)
            known.runas r.runas (λ i f g item. names_local i.runas f g item) two.1 are.runas;
        cmnd = stands_list cmnd_alias (λ i x. match_answer i.path i.args x) (λ i says item. cmnd_answer says i.path i.args item) used.cmnds
            (cmnd_defs defined) known.cmnds (r.cmnd ∷ []) (λ i f g item. cmnds_local i.path i.args f g item) three.1 are.cmnds;
      }

  covers_entry : (e : Entry) → is_entry_used used e ≡ true → CoversEntry defined known e
  covers_entry (entries.UserAlias name list) h = tt
  covers_entry (entries.RunasAlias name list) h = tt
  covers_entry (entries.HostAlias name list) h = tt
  covers_entry (entries.CmndAlias name list) h = tt
  covers_entry (entries.Rule r) h = covers_rule r h

  pub covers_all : (es : List Entry) → list_all (is_entry_used used) es ≡ true → AllByRecursion (CoversEntry defined known) es
  covers_all [] all = tt
  covers_all (e ∷ es) all =
      let parts = and_parts (is_entry_used used e) (list_all (is_entry_used used) es) all in
      (covers_entry e parts.0, covers_all es parts.1)
