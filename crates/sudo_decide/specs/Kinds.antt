-- The kinds of aliases: what is common to their definitions and answers.
use Rattle.std.specs.Prelude.{◌≡◌, ℕ, Bool, false, List, [], ◌∷◌, Option, None}
use Rattle.std.specs.List.{AllByRecursion, flat_map}
use Rattle.sudo_policy.specs.declared.entry.Signed.{Signed}
use Rattle.sudo_policy.specs.declared.entry.Entry.{Entry}
use Rattle.sudo_policy.specs.declared.entry.Entry.TheVariants as entries
use Rattle.sudo_policy.specs.declared.tree.Definition.{Definition}
use Rattle.sudo_policy.specs.Alias.{by_definition, is_defined, user_def}
use Rattle.sudo_policy.specs.Alias.{runas_def, host_def, cmnd_def}
use Rattle.sudo_policy.specs.Policy.{IsPolicy, ArePlaced}
use Rattle.sudo_decide.specs.declared.kind.Meaning.{Meaning}
use Rattle.sudo_decide.specs.declared.kind.Meaning.TheVariants.{Answer, Alias}
use Rattle.sudo_decide.specs.Decision.{list_answer}

-- ---- answers of items, each by what the aliases say

-- an alias says what its list says, by definitions listed from the last to the first
abbrev pub aliases_say : {X : Type 0} → ((List ℕ → Option Bool) → X → Option Bool)
    → List (Definition X) → List ℕ → Option Bool
aliases_say item_says defs =
    by_definition (λ says list. list_answer (item_says says) list) None defs

abbrev pub item_says_by : {X : Type 0} → ((List ℕ → Option Bool) → X → Option Bool)
    → List (Definition X) → X → Option Bool
item_says_by item_says defs item = item_says (aliases_say item_says defs) item

abbrev pub list_says_by : {X : Type 0} → ((List ℕ → Option Bool) → X → Option Bool)
    → List (Definition X) → List (Signed X) → Option Bool
list_says_by item_says defs list = list_answer (item_says_by item_says defs) list

-- an item means an answer, or what an alias says
abbrev pub meant : (List ℕ → Option Bool) → Meaning → Option Bool
meant alias_says (Answer answer) = answer
meant alias_says (Alias name) = alias_says name.now

-- ---- each alias is new in its kind: no entry above its own defines it

abbrev pub AreNew : {X : Type 0} → (Entry → List (Definition X)) → List Entry → List Entry → Type 0
AreNew def above [] = Unit {0}
AreNew def above (e ∷ es) =
    AllByRecursion (λ d. is_defined (flat_map def above) d.name ≡ false) (def e)
    × AreNew def (e ∷ above) es

users_new : (above es : List Entry) → ArePlaced above es → AreNew user_def above es
users_new above [] placed = tt
users_new above (entries.UserAlias name list ∷ es) placed =
    ((placed.0.new, tt), users_new (entries.UserAlias name list ∷ above) es placed.1)
users_new above (entries.RunasAlias name list ∷ es) placed =
    (tt, users_new (entries.RunasAlias name list ∷ above) es placed.1)
users_new above (entries.HostAlias name list ∷ es) placed =
    (tt, users_new (entries.HostAlias name list ∷ above) es placed.1)
users_new above (entries.CmndAlias name list ∷ es) placed =
    (tt, users_new (entries.CmndAlias name list ∷ above) es placed.1)
users_new above (entries.Rule rule ∷ es) placed =
    (tt, users_new (entries.Rule rule ∷ above) es placed.1)

runas_new : (above es : List Entry) → ArePlaced above es → AreNew runas_def above es
runas_new above [] placed = tt
runas_new above (entries.UserAlias name list ∷ es) placed =
    (tt, runas_new (entries.UserAlias name list ∷ above) es placed.1)
runas_new above (entries.RunasAlias name list ∷ es) placed =
    ((placed.0.new, tt), runas_new (entries.RunasAlias name list ∷ above) es placed.1)
runas_new above (entries.HostAlias name list ∷ es) placed =
    (tt, runas_new (entries.HostAlias name list ∷ above) es placed.1)
runas_new above (entries.CmndAlias name list ∷ es) placed =
    (tt, runas_new (entries.CmndAlias name list ∷ above) es placed.1)
runas_new above (entries.Rule rule ∷ es) placed =
    (tt, runas_new (entries.Rule rule ∷ above) es placed.1)

hosts_new : (above es : List Entry) → ArePlaced above es → AreNew host_def above es
hosts_new above [] placed = tt
hosts_new above (entries.UserAlias name list ∷ es) placed =
    (tt, hosts_new (entries.UserAlias name list ∷ above) es placed.1)
hosts_new above (entries.RunasAlias name list ∷ es) placed =
    (tt, hosts_new (entries.RunasAlias name list ∷ above) es placed.1)
hosts_new above (entries.HostAlias name list ∷ es) placed =
    ((placed.0.new, tt), hosts_new (entries.HostAlias name list ∷ above) es placed.1)
hosts_new above (entries.CmndAlias name list ∷ es) placed =
    (tt, hosts_new (entries.CmndAlias name list ∷ above) es placed.1)
hosts_new above (entries.Rule rule ∷ es) placed =
    (tt, hosts_new (entries.Rule rule ∷ above) es placed.1)

cmnds_new : (above es : List Entry) → ArePlaced above es → AreNew cmnd_def above es
cmnds_new above [] placed = tt
cmnds_new above (entries.UserAlias name list ∷ es) placed =
    (tt, cmnds_new (entries.UserAlias name list ∷ above) es placed.1)
cmnds_new above (entries.RunasAlias name list ∷ es) placed =
    (tt, cmnds_new (entries.RunasAlias name list ∷ above) es placed.1)
cmnds_new above (entries.HostAlias name list ∷ es) placed =
    (tt, cmnds_new (entries.HostAlias name list ∷ above) es placed.1)
cmnds_new above (entries.CmndAlias name list ∷ es) placed =
    ((placed.0.new, tt), cmnds_new (entries.CmndAlias name list ∷ above) es placed.1)
cmnds_new above (entries.Rule rule ∷ es) placed =
    (tt, cmnds_new (entries.Rule rule ∷ above) es placed.1)

-- each alias of a policy is new in its kind
pub user_aliases_new : (es : List Entry) → IsPolicy es → AreNew user_def [] es
user_aliases_new es policy = users_new [] es policy.placed

pub runas_aliases_new : (es : List Entry) → IsPolicy es → AreNew runas_def [] es
runas_aliases_new es policy = runas_new [] es policy.placed

pub host_aliases_new : (es : List Entry) → IsPolicy es → AreNew host_def [] es
host_aliases_new es policy = hosts_new [] es policy.placed

pub cmnd_aliases_new : (es : List Entry) → IsPolicy es → AreNew cmnd_def [] es
cmnd_aliases_new es policy = cmnds_new [] es policy.placed
