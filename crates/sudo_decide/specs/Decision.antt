-- What a policy decides of an invocation (sudoers(5), "SUDOERS FILE FORMAT": where several entries
-- match, the last match is used).
use Rattle.std.specs.Prelude.{◌≡◌, ℕ, Bool, true, false, not, ◌&&◌, nat_le, List, [], ◌∷◌, ◌++◌}
use Rattle.std.specs.Prelude.{map, reverse, Option, Some, None, if◌then◌else◌, ◌⊎◌, codes}
use Rattle.std.specs.List.{AllByRecursion}
use Rattle.std.specs.Option.{option_map, option_or}
use Rattle.std.specs.Str.{bytes_eq}
use Rattle.sudo_words.specs.Command.{matches}
use Rattle.sudo_policy.specs.declared.entry.Signed.{Signed}
use Rattle.sudo_policy.specs.declared.entry.Item.{Item}
use Rattle.sudo_policy.specs.declared.entry.Item.TheVariants as items
use Rattle.sudo_policy.specs.declared.entry.CmndItem.{CmndItem}
use Rattle.sudo_policy.specs.declared.entry.CmndItem.TheVariants as cmnds
use Rattle.sudo_policy.specs.declared.entry.Rule.{Rule}
use Rattle.sudo_policy.specs.declared.entry.Entry.{Entry}
use Rattle.sudo_policy.specs.declared.entry.Entry.TheVariants as entries
use Rattle.sudo_policy.specs.declared.tags.Tags.{Tags}
use Rattle.sudo_policy.specs.declared.tree.Definition.{Definition}
use Rattle.sudo_policy.specs.Alias.{by_definition, user_defs, host_defs, runas_defs, cmnd_defs}
use Rattle.sudo_policy.specs.Text.{Names}
use Rattle.sudo_decide.specs.declared.decision.Decision.{Decision}
use Rattle.sudo_decide.specs.declared.decision.Decision.TheVariants.{Deny, Allow, AllowNoPassword}
use Rattle.sudo_decide.specs.declared.invocation.Invocation.{Invocation}

-- ---- answers: `Some true` is yes, `Some false` is no, and `None` is silence

-- whether the answer is yes; neither a no nor silence is
abbrev pub is_yes : Option Bool → Bool
is_yes (Some answer) = answer
is_yes None = false

-- the last answer that is given
abbrev pub last_given : {X : Type 0} → List (Option X) → Option X
last_given [] = None
last_given (answer ∷ later) = option_or (last_given later) answer

-- negation swaps yes and no, and keeps silence
abbrev pub signed_answer : Bool → Option Bool → Option Bool
signed_answer negated answer = if negated then option_map not answer else answer

-- a list is looked at in order, and its answer is the last one that an item gives
abbrev pub list_answer : {X : Type 0} → (X → Option Bool) → List (Signed X) → Option Bool
list_answer item_says list = last_given (map (λ x. signed_answer x.negated (item_says x.item)) list)

-- `ALL` says yes, a name says yes if it is the one asked for, and an alias says what `alias_says`
-- gives for it
abbrev pub item_answer : (List ℕ → Option Bool) → List ℕ → Item (List ℕ) → Option Bool
item_answer alias_says asked items.All = Some true
item_answer alias_says asked (items.Name name) = if bytes_eq name asked then Some true else None
item_answer alias_says asked (items.Alias name) = alias_says name

-- a command says yes where it matches the path with these arguments
abbrev pub cmnd_answer : (List ℕ → Option Bool) → List ℕ → List (List ℕ) → CmndItem → Option Bool
cmnd_answer alias_says path args (cmnds.Alias name) = alias_says name
cmnd_answer alias_says path args (cmnds.Cmnd cmnd) =
    if matches cmnd path args then Some true else None

-- an alias says what its list says, by definitions listed from the last to the first; one that is
-- not defined is silent
abbrev pub name_alias_says : List (Definition (Item (List ℕ))) → List ℕ → List ℕ → Option Bool
name_alias_says defs asked =
    by_definition (λ says list. list_answer (item_answer says asked) list) None defs

abbrev pub cmnd_alias_says : List (Definition CmndItem)
    → List ℕ → List (List ℕ) → List ℕ → Option Bool
cmnd_alias_says defs path args =
    by_definition (λ says list. list_answer (cmnd_answer says path args) list) None defs

-- what a list of users, hosts or targets says about the name asked for
abbrev pub names_say : List (Definition (Item (List ℕ))) → List ℕ → Names → Option Bool
names_say defs asked list = list_answer (item_answer (name_alias_says defs asked) asked) list

-- ---- rules

-- a moment is from the first to the last, both included; an absent one is no bound
abbrev pub is_not_before : Option ℕ → ℕ → Bool
is_not_before None at = true
is_not_before (Some first) at = nat_le first at

abbrev pub is_not_after : Option ℕ → ℕ → Bool
is_not_after None at = true
is_not_after (Some last) at = nat_le at last

abbrev pub is_within : (not_before not_after : Option ℕ) → ℕ → Bool
is_within not_before not_after at = is_not_before not_before at && is_not_after not_after at

-- a rule takes part from its first moment to its last
abbrev pub takes_part : Rule → ℕ → Bool
takes_part r at = is_within r.not_before r.not_after at

-- its users, its hosts and its targets each say yes, by the definitions among the entries, which
-- are listed from the last to the first
abbrev pub is_about : List Entry → Rule → Invocation → Bool
is_about defined r i =
    is_yes (names_say (user_defs defined) i.user r.users)
    && is_yes (names_say (host_defs defined) i.host r.hosts)
    && is_yes (names_say (runas_defs defined) i.runas r.runas)

-- what its command says
abbrev pub cmnd_says : List Entry → Rule → Invocation → Option Bool
cmnd_says defined r i =
    signed_answer r.cmnd.negated
    (cmnd_answer (cmnd_alias_says (cmnd_defs defined) i.path i.args) i.path i.args r.cmnd.item)

-- a rule that takes part and is about the invocation says what its command says; any other is
-- silent
abbrev pub says : List Entry → Rule → Invocation → Option Bool
says defined r i = if takes_part r i.at && is_about defined r i then cmnd_says defined r i else None

-- only rules speak
abbrev pub entry_says : List Entry → Entry → Invocation → Option Bool
entry_says defined (entries.Rule rule) i = says defined rule i
entry_says defined alias i = None

-- ---- policies: the last rule that speaks decides, and silence denies

-- what this answer decides, with these tags
abbrev pub decision_of : Tags → Bool → Decision
decision_of tags answer =
    if answer then (if tags.nopasswd then AllowNoPassword else Allow) else Deny

-- what a rule decides with this answer
abbrev pub outcome : Rule → Bool → Decision
outcome r answer = decision_of r.tags answer

abbrev pub AllSilent : List Entry → List Entry → Invocation → Type 0
AllSilent defined es i = AllByRecursion (λ e. entry_says defined e i ≡ None) es

-- a rule speaks, each entry after it is silent, and the decision is the rule's
pub record DecidesByRule (defined : List Entry) (es : List Entry)
    (i : Invocation) (d : Decision) : Type 0 where
  pub before : List Entry
  pub rule : Rule
  pub after : List Entry
  pub answer : Bool
  pub entries_are : es ≡ before ++ entries.Rule rule ∷ after
  pub speaks : says defined rule i ≡ Some answer
  pub silent : AllSilent defined after i
  pub decision : d ≡ outcome rule answer

-- nothing speaks, and the decision is to deny
pub record DecidesBySilence (defined : List Entry)
    (es : List Entry) (i : Invocation) (d : Decision) : Type 0 where
  pub silent : AllSilent defined es i
  pub decision : d ≡ Deny

-- what the entries `es` decide, where the entries `defined` define the aliases
abbrev pub DecidesBy : List Entry → List Entry → Invocation → Decision → Type 0
DecidesBy defined es i d = DecidesByRule defined es i d ⊎ DecidesBySilence defined es i d

-- what a policy decides, by its own definitions
abbrev pub Decides : List Entry → Invocation → Decision → Type 0
Decides es i d = DecidesBy (reverse es) es i d

-- ---- texts

abbrev pub decision_text : Decision → List ℕ
decision_text Deny = codes "deny"
decision_text Allow = codes "allow"
decision_text AllowNoPassword = codes "allow nopasswd"
