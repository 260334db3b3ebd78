-- Aliases as they are written out.
use Rattle.std.specs.Prelude.{◌≡◌, ℕ, Bool, true, List, [], ◌∷◌, Option, None, Some}
use Rattle.std.specs.HashMap.{get_by_text}
use Rattle.std.specs.Option.{option_map, option_or}
use Rattle.sudo_policy.specs.declared.entry.Signed.{Signed}
use Rattle.sudo_policy.specs.declared.entry.Entry.{Entry}
use Rattle.sudo_policy.specs.declared.entry.Entry.TheVariants as entries
use Rattle.sudo_policy.specs.declared.entry.Rule.{Rule}
use Rattle.sudo_decide.specs.declared.invocation.Invocation.{Invocation}
use Rattle.sudo_policy.specs.declared.tree.Definition.{Definition}
use Rattle.sudo_policy.specs.Alias.{user_defs, runas_defs, host_defs, cmnd_defs}
use Rattle.sudo_decide.specs.Decision as defined
use Rattle.sudo_decide.specs.Kinds.{aliases_say, list_says_by}
use Rattle.sudo_compiled.specs.declared.aliases.Aliases.{Aliases}
use Rattle.sudo_compiled.specs.declared.known.Known.{Known}
use Rattle.sudo_compiled.specs.declared.kind.Written.{Written}
use Rattle.sudo_compiled.specs.declared.kind.Written.TheVariants as written
use Rattle.sudo_compiled.specs.declared.plain.PlainRule.{PlainRule}
use Rattle.sudo_compiled.specs.declared.used.NameSet.{NameSet}
use Rattle.sudo_compiled.specs.declared.used.Used.{Used}
use Rattle.sudo_compiled.specs.Compiled.{plain_answer, match_answer}
use Rattle.sudo_compiled.specs.Compiled.{plain_takes_part, plain_is_about, cmnds_say}
use Rattle.sudo_compiled.specs.private.Used.{has}

-- what an item is written out as: itself, or the alias that it is
abbrev pub written_says : {X : Type 0} → (X → Option Bool)
    → (List ℕ → Option Bool) → Written X → Option Bool
written_says plain alias_says (written.Own x) = plain x
written_says plain alias_says (written.Alias name) = alias_says name.now

-- whatever is asked, what is added at the end of a list answers this: so the list answers it too,
-- and where this is silent, what it answered before
abbrev pub Adds : {X : Type 0} → (Invocation → X → Option Bool)
    → List (Signed X) → List (Signed X) → (Invocation → Option Bool) → Type 0
Adds plain old new says = (i : Invocation)
    → defined.list_answer (plain i) new ≡ option_or (says i) (defined.list_answer (plain i) old)

-- ---- what aliases stand for

-- the list that is kept for the alias with this name
abbrev pub list_at : {X : Type 0} → Known X → List ℕ → Option (List (Signed X))
list_at known name = option_map (λ list. list.value.items) (get_by_text known.lists name)

-- a list answers, and where there is none it is silent
abbrev pub found_says : {X : Type 0} → (X → Option Bool) → Option (List (Signed X)) → Option Bool
found_says plain None = None
found_says plain (Some list) = defined.list_answer plain list

abbrev pub known_says : {X : Type 0} → (X → Option Bool) → Known X → List ℕ → Option Bool
known_says plain known name = found_says plain (list_at known name)

-- what is kept stands for those aliases of these definitions that have one of the names: whatever
-- is asked, it says what they say
abbrev pub Stands : {X Y : Type 0} → (Invocation → X → Option Bool)
    → (Invocation → (List ℕ → Option Bool) → Y → Option Bool)
    → NameSet → List (Definition Y) → Known X → Type 0
Stands plain says names defs known = (i : Invocation) (name : List ℕ) → has names name ≡ true
    → known_says (plain i) known name ≡ aliases_say (says i) defs name

-- this holds for the used aliases of each kind that the entries define; the entries are listed from
-- the last to the first
pub record AreKnown (used : Used) (above : List Entry) (known : Aliases) : Type 0 where
  pub users : Stands (λ i x. plain_answer i.user x) (λ i alias_says item.
      defined.item_answer alias_says i.user item) used.users (user_defs above) known.users
  pub runas : Stands (λ i x. plain_answer i.runas x) (λ i alias_says item.
      defined.item_answer alias_says i.runas item) used.runas (runas_defs above) known.runas
  pub hosts : Stands (λ i x. plain_answer i.host x) (λ i alias_says item.
      defined.item_answer alias_says i.host item) used.hosts (host_defs above) known.hosts
  pub cmnds : Stands (λ i x. match_answer i.path i.args x) (λ i alias_says item.
      defined.cmnd_answer alias_says i.path i.args item) used.cmnds (cmnd_defs above) known.cmnds

-- ---- rules

-- what is kept says about a list what the definitions say about it, whatever is asked
abbrev pub SaysByDefinitions : {X Y : Type 0} → (Invocation → X → Option Bool)
    → (Invocation → (List ℕ → Option Bool) → Y → Option Bool)
    → List (Definition Y) → Known X → List (Signed Y) → Type 0
SaysByDefinitions plain says defs known list = (i : Invocation)
    → defined.list_answer (says i (known_says (plain i) known)) list
    ≡ list_says_by (says i) defs list

-- this holds for each list of the rule
pub record Covers (defined_by : List Entry) (known : Aliases) (r : Rule) : Type 0 where
  pub users : SaysByDefinitions (λ i x. plain_answer i.user x) (λ i alias_says item.
      defined.item_answer alias_says i.user item) (user_defs defined_by) known.users r.users
  pub hosts : SaysByDefinitions (λ i x. plain_answer i.host x) (λ i alias_says item.
      defined.item_answer alias_says i.host item) (host_defs defined_by) known.hosts r.hosts
  pub runas : SaysByDefinitions (λ i x. plain_answer i.runas x) (λ i alias_says item.
      defined.item_answer alias_says i.runas item) (runas_defs defined_by) known.runas r.runas
  pub cmnd : SaysByDefinitions (λ i x. match_answer i.path i.args x) (λ i alias_says item.
      defined.cmnd_answer alias_says i.path i.args item) (cmnd_defs defined_by) known.cmnds
      (r.cmnd ∷ [])

-- this holds for the entry if it is a rule
abbrev pub CoversEntry : List Entry → Aliases → Entry → Type 0
CoversEntry defined_by known (entries.Rule r) = Covers defined_by known r
CoversEntry defined_by known other = Unit {0}

-- the rule as it is written out says, whatever is asked, what the rule says by the entries'
-- definitions, and decides what it decides
pub record IsWritten (defined_by : List Entry) (r : Rule) (w : PlainRule) : Type 0 where
  pub dates : (at : ℕ) → plain_takes_part w at ≡ defined.takes_part r at
  pub about : (i : Invocation) → plain_is_about w i ≡ defined.is_about defined_by r i
  pub cmnd : (i : Invocation) → cmnds_say i.path i.args w.cmnds ≡ defined.cmnd_says defined_by r i
  pub tags : w.tags ≡ r.tags
