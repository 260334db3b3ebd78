-- What is kept for the aliases of all kinds, as one entry is added.
use Rattle.std.proofs.Common.{◌≡◌, ℕ, List, [], ◌∷◌, ◌++◌, length, reverse, Option, Some, None, Result, refl, sym, subst, ◌∙◌, arith}
use Rattle.std.specs.Prelude.{MatchOption, IfOk, IfErr}
use Rattle.std.specs.Option.{ok_or}
use Rattle.sudo_policy.specs.declared.entry.Signed.{Signed}
use Rattle.sudo_policy.specs.declared.entry.Item.{Item}
use Rattle.sudo_policy.specs.declared.entry.CmndItem.{CmndItem}
use Rattle.sudo_policy.specs.declared.entry.Rule.{Rule}
use Rattle.sudo_policy.specs.declared.entry.Entry.{Entry}
use Rattle.sudo_policy.specs.declared.entry.Entry.TheVariants as entries
use Rattle.sudo_policy.specs.declared.aliases.Aliases.{Aliases}
use Rattle.sudo_policy.specs.declared.alias_kinds.AliasKinds.{AliasKinds}
use Rattle.sudo_policy.specs.declared.fault.LineFault.{LineFault}
use Rattle.sudo_policy.specs.declared.fault.LineFault.TheVariants as fault
use Rattle.sudo_policy.specs.Alias.{item_alias, cmnd_alias, user_def, runas_def, host_def, cmnd_def, user_defs, runas_defs, host_defs, cmnd_defs}
use Rattle.sudo_policy.specs.private.Measures.{stopped, IsDefinable, Defines}
use Rattle.sudo_policy.specs.private.AliasKinds.{AreAliasKinds, RuleIsKnown, rule_weight_in}
use Rattle.sudo_policy.specs.Policy.{IsPlaced, entry_weight}
use Rattle.sudo_policy.proofs.Tables.{new_is, definable_is, kind_push, kind_same, rule_known, known_rule, rule_stopped}

-- the entry is placed, what is kept agrees with all entries and this one, and the weight is the entry's until it stops
abbrev pub IsEntered : List Entry → Entry → AliasKinds → ℕ → Type 0
IsEntered es e s w = IsPlaced (reverse es) e × AreAliasKinds (es ++ e ∷ []) s × (w ≡ stopped (entry_weight (reverse es) e))

-- ---- UserAlias

user_made : (es : List Entry) (s : AliasKinds) (new : Aliases) (place : ℕ) (name : List ℕ) (list : List (Signed (Item (List ℕ))))
    → AreAliasKinds es s → place ≡ length es → Defines item_alias s.users new name place list
    → IsEntered es (entries.UserAlias name list) (record { users = new; runas = s.runas; hosts = s.hosts; cmnds = s.cmnds }) 0
user_made es s new place name list is at d =
    let e : Entry = entries.UserAlias name list in (
      new_is item_alias (user_defs (reverse es)) s.users name list is.users.table d.definable,
      record {
        users = kind_push item_alias user_def es e s.users new name list refl is.users (subst (λ (p : ℕ). Defines item_alias s.users new name p list) at d);
        runas = kind_same item_alias runas_def es e s.runas refl is.runas;
        hosts = kind_same item_alias host_def es e s.hosts refl is.hosts;
        cmnds = kind_same cmnd_alias cmnd_def es e s.cmnds refl is.cmnds;
      },
      omega arith,
    )

pub user_entered : (es : List Entry) (s : AliasKinds) (new : Aliases) (place : ℕ) (name : List ℕ) (list given : List (Signed (Item (List ℕ)))) (e : Entry)
    → AreAliasKinds es s → place ≡ length es → e ≡ entries.UserAlias name list → given ≡ list → Defines item_alias s.users new name place given
    → IsEntered es e (record { users = new; runas = s.runas; hosts = s.hosts; cmnds = s.cmnds }) 0
user_entered es s new place name list given e is at e_is same d =
    subst (λ (x : Entry). IsEntered es x (record { users = new; runas = s.runas; hosts = s.hosts; cmnds = s.cmnds }) 0) (sym e_is)
    (user_made es s new place name list is at (subst (λ (xs : List (Signed (Item (List ℕ)))). Defines item_alias s.users new name place xs) same d))

pub user_definable : (es : List Entry) (s : AliasKinds) (name : List ℕ) (list given : List (Signed (Item (List ℕ)))) (e : Entry)
    → AreAliasKinds es s → e ≡ entries.UserAlias name list → given ≡ list → IsPlaced (reverse es) e → IsDefinable item_alias s.users name given
user_definable es s name list given e is e_is same placed =
    subst (λ (xs : List (Signed (Item (List ℕ)))). IsDefinable item_alias s.users name xs) (sym same)
    (definable_is item_alias (user_defs (reverse es)) s.users name list is.users.table (subst (IsPlaced (reverse es)) e_is placed))

-- ---- RunasAlias

runas_made : (es : List Entry) (s : AliasKinds) (new : Aliases) (place : ℕ) (name : List ℕ) (list : List (Signed (Item (List ℕ))))
    → AreAliasKinds es s → place ≡ length es → Defines item_alias s.runas new name place list
    → IsEntered es (entries.RunasAlias name list) (record { users = s.users; runas = new; hosts = s.hosts; cmnds = s.cmnds }) 0
runas_made es s new place name list is at d =
    let e : Entry = entries.RunasAlias name list in (
      new_is item_alias (runas_defs (reverse es)) s.runas name list is.runas.table d.definable,
      record {
        users = kind_same item_alias user_def es e s.users refl is.users;
        runas = kind_push item_alias runas_def es e s.runas new name list refl is.runas (subst (λ (p : ℕ). Defines item_alias s.runas new name p list) at d);
        hosts = kind_same item_alias host_def es e s.hosts refl is.hosts;
        cmnds = kind_same cmnd_alias cmnd_def es e s.cmnds refl is.cmnds;
      },
      omega arith,
    )

pub runas_entered : (es : List Entry) (s : AliasKinds) (new : Aliases) (place : ℕ) (name : List ℕ) (list given : List (Signed (Item (List ℕ)))) (e : Entry)
    → AreAliasKinds es s → place ≡ length es → e ≡ entries.RunasAlias name list → given ≡ list → Defines item_alias s.runas new name place given
    → IsEntered es e (record { users = s.users; runas = new; hosts = s.hosts; cmnds = s.cmnds }) 0
runas_entered es s new place name list given e is at e_is same d =
    subst (λ (x : Entry). IsEntered es x (record { users = s.users; runas = new; hosts = s.hosts; cmnds = s.cmnds }) 0) (sym e_is)
    (runas_made es s new place name list is at (subst (λ (xs : List (Signed (Item (List ℕ)))). Defines item_alias s.runas new name place xs) same d))

pub runas_definable : (es : List Entry) (s : AliasKinds) (name : List ℕ) (list given : List (Signed (Item (List ℕ)))) (e : Entry)
    → AreAliasKinds es s → e ≡ entries.RunasAlias name list → given ≡ list → IsPlaced (reverse es) e → IsDefinable item_alias s.runas name given
runas_definable es s name list given e is e_is same placed =
    subst (λ (xs : List (Signed (Item (List ℕ)))). IsDefinable item_alias s.runas name xs) (sym same)
    (definable_is item_alias (runas_defs (reverse es)) s.runas name list is.runas.table (subst (IsPlaced (reverse es)) e_is placed))

-- ---- HostAlias

host_made : (es : List Entry) (s : AliasKinds) (new : Aliases) (place : ℕ) (name : List ℕ) (list : List (Signed (Item (List ℕ))))
    → AreAliasKinds es s → place ≡ length es → Defines item_alias s.hosts new name place list
    → IsEntered es (entries.HostAlias name list) (record { users = s.users; runas = s.runas; hosts = new; cmnds = s.cmnds }) 0
host_made es s new place name list is at d =
    let e : Entry = entries.HostAlias name list in (
      new_is item_alias (host_defs (reverse es)) s.hosts name list is.hosts.table d.definable,
      record {
        users = kind_same item_alias user_def es e s.users refl is.users;
        runas = kind_same item_alias runas_def es e s.runas refl is.runas;
        hosts = kind_push item_alias host_def es e s.hosts new name list refl is.hosts (subst (λ (p : ℕ). Defines item_alias s.hosts new name p list) at d);
        cmnds = kind_same cmnd_alias cmnd_def es e s.cmnds refl is.cmnds;
      },
      omega arith,
    )

pub host_entered : (es : List Entry) (s : AliasKinds) (new : Aliases) (place : ℕ) (name : List ℕ) (list given : List (Signed (Item (List ℕ)))) (e : Entry)
    → AreAliasKinds es s → place ≡ length es → e ≡ entries.HostAlias name list → given ≡ list → Defines item_alias s.hosts new name place given
    → IsEntered es e (record { users = s.users; runas = s.runas; hosts = new; cmnds = s.cmnds }) 0
host_entered es s new place name list given e is at e_is same d =
    subst (λ (x : Entry). IsEntered es x (record { users = s.users; runas = s.runas; hosts = new; cmnds = s.cmnds }) 0) (sym e_is)
    (host_made es s new place name list is at (subst (λ (xs : List (Signed (Item (List ℕ)))). Defines item_alias s.hosts new name place xs) same d))

pub host_definable : (es : List Entry) (s : AliasKinds) (name : List ℕ) (list given : List (Signed (Item (List ℕ)))) (e : Entry)
    → AreAliasKinds es s → e ≡ entries.HostAlias name list → given ≡ list → IsPlaced (reverse es) e → IsDefinable item_alias s.hosts name given
host_definable es s name list given e is e_is same placed =
    subst (λ (xs : List (Signed (Item (List ℕ)))). IsDefinable item_alias s.hosts name xs) (sym same)
    (definable_is item_alias (host_defs (reverse es)) s.hosts name list is.hosts.table (subst (IsPlaced (reverse es)) e_is placed))

-- ---- CmndAlias

cmnd_made : (es : List Entry) (s : AliasKinds) (new : Aliases) (place : ℕ) (name : List ℕ) (list : List (Signed CmndItem))
    → AreAliasKinds es s → place ≡ length es → Defines cmnd_alias s.cmnds new name place list
    → IsEntered es (entries.CmndAlias name list) (record { users = s.users; runas = s.runas; hosts = s.hosts; cmnds = new }) 0
cmnd_made es s new place name list is at d =
    let e : Entry = entries.CmndAlias name list in (
      new_is cmnd_alias (cmnd_defs (reverse es)) s.cmnds name list is.cmnds.table d.definable,
      record {
        users = kind_same item_alias user_def es e s.users refl is.users;
        runas = kind_same item_alias runas_def es e s.runas refl is.runas;
        hosts = kind_same item_alias host_def es e s.hosts refl is.hosts;
        cmnds = kind_push cmnd_alias cmnd_def es e s.cmnds new name list refl is.cmnds (subst (λ (p : ℕ). Defines cmnd_alias s.cmnds new name p list) at d);
      },
      omega arith,
    )

pub cmnd_entered : (es : List Entry) (s : AliasKinds) (new : Aliases) (place : ℕ) (name : List ℕ) (list given : List (Signed CmndItem)) (e : Entry)
    → AreAliasKinds es s → place ≡ length es → e ≡ entries.CmndAlias name list → given ≡ list → Defines cmnd_alias s.cmnds new name place given
    → IsEntered es e (record { users = s.users; runas = s.runas; hosts = s.hosts; cmnds = new }) 0
cmnd_entered es s new place name list given e is at e_is same d =
    subst (λ (x : Entry). IsEntered es x (record { users = s.users; runas = s.runas; hosts = s.hosts; cmnds = new }) 0) (sym e_is)
    (cmnd_made es s new place name list is at (subst (λ (xs : List (Signed CmndItem)). Defines cmnd_alias s.cmnds new name place xs) same d))

pub cmnd_definable : (es : List Entry) (s : AliasKinds) (name : List ℕ) (list given : List (Signed CmndItem)) (e : Entry)
    → AreAliasKinds es s → e ≡ entries.CmndAlias name list → given ≡ list → IsPlaced (reverse es) e → IsDefinable cmnd_alias s.cmnds name given
cmnd_definable es s name list given e is e_is same placed =
    subst (λ (xs : List (Signed CmndItem)). IsDefinable cmnd_alias s.cmnds name xs) (sym same)
    (definable_is cmnd_alias (cmnd_defs (reverse es)) s.cmnds name list is.cmnds.table (subst (IsPlaced (reverse es)) e_is placed))

-- ---- rules

rule_made : (es : List Entry) (s : AliasKinds) (r : Rule) (w : ℕ) → AreAliasKinds es s
    → RuleIsKnown s r → w ≡ stopped (rule_weight_in s r) → IsEntered es (entries.Rule r) s w
rule_made es s r w is known weighs =
    let e : Entry = entries.Rule r in (
      rule_known es s r is known,
      record {
        users = kind_same item_alias user_def es e s.users refl is.users;
        runas = kind_same item_alias runas_def es e s.runas refl is.runas;
        hosts = kind_same item_alias host_def es e s.hosts refl is.hosts;
        cmnds = kind_same cmnd_alias cmnd_def es e s.cmnds refl is.cmnds;
      },
      weighs ∙ rule_stopped es s r is,
    )

-- what was found for the weight of a rule
abbrev pub IsWeighed : AliasKinds → Rule → Option ℕ → Type 0
IsWeighed s r o = MatchOption o (¬ RuleIsKnown s r) (λ w. RuleIsKnown s r × (w ≡ stopped (rule_weight_in s r)))

rule_ok : (es : List Entry) (s : AliasKinds) (r : Rule) (o : Option ℕ) → AreAliasKinds es s → IsWeighed s r o
    → IfOk (ok_or o fault.UnknownAlias) (λ w. IsEntered es (entries.Rule r) s w)
rule_ok es s r None is h = tt
rule_ok es s r (Some w) is h = rule_made es s r w is h.0 h.1

pub rule_entered : (es : List Entry) (s : AliasKinds) (r : Rule) (e : Entry) (o : Option ℕ) (result : Result ℕ LineFault)
    → AreAliasKinds es s → e ≡ entries.Rule r → IsWeighed s r o → result ≡ ok_or o fault.UnknownAlias → IfOk result (λ w. IsEntered es e s w)
rule_entered es s r e o result is e_is h given =
    subst (λ (x : Entry). IfOk result (λ w. IsEntered es x s w)) (sym e_is)
    (subst (λ (q : Result ℕ LineFault). IfOk q (λ w. IsEntered es (entries.Rule r) s w)) (sym given) (rule_ok es s r o is h))

rule_err : (es : List Entry) (s : AliasKinds) (r : Rule) (o : Option ℕ) → AreAliasKinds es s → IsWeighed s r o → IsPlaced (reverse es) (entries.Rule r)
    → IfErr (ok_or o fault.UnknownAlias) (λ e. e ≡ fault.NoMemory)
rule_err es s r None is h placed = absurd (h (known_rule es s r is placed))
rule_err es s r (Some w) is h placed = tt

pub rule_refused : (es : List Entry) (s : AliasKinds) (r : Rule) (e : Entry) (o : Option ℕ) (result : Result ℕ LineFault) → AreAliasKinds es s
    → e ≡ entries.Rule r → IsWeighed s r o → result ≡ ok_or o fault.UnknownAlias → IsPlaced (reverse es) e → IfErr result (λ e. e ≡ fault.NoMemory)
rule_refused es s r e o result is e_is h given placed =
    subst (λ (q : Result ℕ LineFault). IfErr q (λ f. f ≡ fault.NoMemory)) (sym given) (rule_err es s r o is h (subst (IsPlaced (reverse es)) e_is placed))
