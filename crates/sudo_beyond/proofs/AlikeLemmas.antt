-- What is answered alike by each item is answered alike by each list and alias, and so by the policy.
use Rattle.std.proofs.Common.{◌≡◌, ℕ, Bool, true, if◌then◌else◌, Option, Some, None, List, [], ◌∷◌, ◌++◌, reverse, refl, sym, ap, subst, ◌∙◌}
use Rattle.std.proofs.Math.Path.{fun_ext}
use Rattle.std.proofs.lemmas.List.{reverse-append}
use Rattle.std.specs.List.{AllByRecursion, flat_map}
use Rattle.std.specs.Option.{option_or}
use Rattle.std.specs.Str.{bytes_eq}
use Rattle.sudo_words.specs.declared.cmnd.Cmnd.{Cmnd}
use Rattle.sudo_words.specs.Command.{matches}
use Rattle.sudo_policy.specs.declared.entry.Signed.{Signed}
use Rattle.sudo_policy.specs.declared.entry.Item.{Item}
use Rattle.sudo_policy.specs.declared.entry.Item.TheVariants as items
use Rattle.sudo_policy.specs.declared.entry.CmndItem.{CmndItem}
use Rattle.sudo_policy.specs.declared.entry.CmndItem.TheVariants as cmnds
use Rattle.sudo_policy.specs.declared.entry.Rule.{Rule}
use Rattle.sudo_policy.specs.declared.entry.Entry.{Entry}
use Rattle.sudo_policy.specs.declared.entry.Entry.TheVariants as entries
use Rattle.sudo_policy.specs.declared.tree.Definition.{Definition}
use Rattle.sudo_policy.specs.Alias.{user_def, host_def, runas_def, cmnd_def, user_defs, host_defs, runas_defs, cmnd_defs}
use Rattle.sudo_decide.specs.declared.decision.Decision.{Decision}
use Rattle.sudo_decide.specs.declared.invocation.Invocation.{Invocation}
use Rattle.sudo_decide.specs.Decision.{signed_answer, list_answer, item_answer, cmnd_answer, names_say, takes_part, Decides}
use Rattle.sudo_decide.specs.Kinds.{aliases_say, item_says_by, list_says_by}
use Rattle.sudo_decide.specs.Reach.{rules_in, AnswersAlike, AllAnswerAlike, of_policy}
use Rattle.sudo_decide.proofs.Reaching.{answers_decide}
use Rattle.sudo_beyond.specs.Standing as standing
use Rattle.sudo_beyond.specs.Standing.{item_names, names_in, cmnd_in, cmnds_in, users_of, hosts_of, runas_of, cmnds_of}
use Rattle.sudo_beyond.specs.Alike.{AlikeNames, AlikeCmnds, AlikeMoments, Alike}

-- ---- what holds of each element

pub all_weaker : {X : Type 0} (P Q : X → Type 0) (xs : List X) → ((x : X) → P x → Q x) → AllByRecursion P xs → AllByRecursion Q xs
all_weaker P Q [] f all = tt
all_weaker P Q (x ∷ xs) f all = (f x all.0, all_weaker P Q xs f all.1)

pub all_append : {X : Type 0} (P : X → Type 0) (xs ys : List X) → AllByRecursion P xs → AllByRecursion P ys → AllByRecursion P (xs ++ ys)
all_append P [] ys px py = py
all_append P (x ∷ xs) ys px py = (px.0, all_append P xs ys px.1 py)

pub all_front : {X : Type 0} (P : X → Type 0) (xs ys : List X) → AllByRecursion P (xs ++ ys) → AllByRecursion P xs
all_front P [] ys all = tt
all_front P (x ∷ xs) ys all = (all.0, all_front P xs ys all.1)

pub all_back : {X : Type 0} (P : X → Type 0) (xs ys : List X) → AllByRecursion P (xs ++ ys) → AllByRecursion P ys
all_back P [] ys all = all
all_back P (x ∷ xs) ys all = all_back P xs ys all.1

pub all_reverse : {X : Type 0} (P : X → Type 0) (xs : List X) → AllByRecursion P xs → AllByRecursion P (reverse xs)
all_reverse P [] all = tt
all_reverse {X} P (x ∷ xs) all =
    let Q : List X → Type 0 = λ ys. AllByRecursion P ys in
    subst Q (sym (reverse-append (x ∷ []) xs)) (all_append P (reverse xs) (x ∷ []) (all_reverse P xs all.1) (all.0, tt))

pub all_flat : {X Y : Type 0} (P : Y → Type 0) (h : X → List Y) (xs : List X)
    → AllByRecursion (λ x. AllByRecursion P (h x)) xs → AllByRecursion P (flat_map h xs)
all_flat P h [] all = tt
all_flat P h (x ∷ xs) all = all_append P (h x) (flat_map h xs) all.0 (all_flat P h xs all.1)

pub all_each : {X Y : Type 0} (P : Y → Type 0) (h : X → List Y) (xs : List X)
    → AllByRecursion P (flat_map h xs) → AllByRecursion (λ x. AllByRecursion P (h x)) xs
all_each P h [] all = tt
all_each P h (x ∷ xs) all = (all_front P (h x) (flat_map h xs) all, all_each P h xs (all_back P (h x) (flat_map h xs) all))

-- ---- lists and aliases: f and g are what items say of two things that are asked

abbrev pub Saying : Type 0 → Type 0
Saying X = (List ℕ → Option Bool) → X → Option Bool

-- an item says the same by both, whatever the aliases say
abbrev pub Same : {X : Type 0} → Saying X → Saying X → Signed X → Type 0
Same f g s = (says : List ℕ → Option Bool) → f says s.item ≡ g says s.item

list_alike : {X : Type 0} (f g : X → Option Bool) (list : List (Signed X))
    → AllByRecursion (λ s. f s.item ≡ g s.item) list → list_answer f list ≡ list_answer g list
list_alike f g [] alike = refl
list_alike f g (s ∷ list) alike =
    ap (λ (o : Option Bool). option_or o (signed_answer s.negated (f s.item))) (list_alike f g list alike.1)
    ∙ ap (λ (o : Option Bool). option_or (list_answer g list) (signed_answer s.negated o)) alike.0

-- by induction on the definitions, from the farthest above to the nearest
pub aliases_alike : {X : Type 0} (f g : Saying X) (defs : List (Definition X))
    → AllByRecursion (λ d. AllByRecursion (Same f g) d.list) defs → (name : List ℕ) → aliases_say f defs name ≡ aliases_say g defs name
aliases_alike f g [] alike name = refl
aliases_alike f g (d ∷ above) alike name =
    let same : aliases_say f above ≡ aliases_say g above = fun_ext (aliases_alike f g above alike.1) in
    let own : list_answer (f (aliases_say f above)) d.list ≡ list_answer (g (aliases_say g above)) d.list =
    list_alike (f (aliases_say f above)) (g (aliases_say g above)) d.list
    (all_weaker (Same f g) (λ s. f (aliases_say f above) s.item ≡ g (aliases_say g above) s.item) d.list
    (λ s both. both (aliases_say f above) ∙ ap (λ (says : List ℕ → Option Bool). g says s.item) same) alike.0) in
    ap (λ (o : Option Bool). if bytes_eq d.name name then o else aliases_say f above name) own
    ∙ ap (λ (o : Option Bool). if bytes_eq d.name name then list_answer (g (aliases_say g above)) d.list else o) (aliases_alike f g above alike.1 name)

-- an item, and a list
pub item_alike : {X : Type 0} (f g : Saying X) (defs : List (Definition X)) (s : Signed X)
    → AllByRecursion (λ d. AllByRecursion (Same f g) d.list) defs → Same f g s → item_says_by f defs s.item ≡ item_says_by g defs s.item
item_alike f g defs s alike both =
    both (aliases_say f defs) ∙ ap (λ (says : List ℕ → Option Bool). g says s.item) (fun_ext (aliases_alike f g defs alike))

pub says_alike : {X : Type 0} (f g : Saying X) (defs : List (Definition X)) (list : List (Signed X))
    → AllByRecursion (λ d. AllByRecursion (Same f g) d.list) defs → AllByRecursion (Same f g) list → list_says_by f defs list ≡ list_says_by g defs list
says_alike f g defs list alike each =
    list_alike (item_says_by f defs) (item_says_by g defs) list
    (all_weaker (Same f g) (λ s. item_says_by f defs s.item ≡ item_says_by g defs s.item) list (λ s. item_alike f g defs s alike) each)

-- ---- items: names and commands

abbrev pub by_name : List ℕ → Saying (Item (List ℕ))
by_name x = λ says item. item_answer says x item

abbrev pub by_run : List ℕ → List (List ℕ) → Saying CmndItem
by_run path args = λ says item. cmnd_answer says path args item

name_same : (x y : List ℕ) (item : Item (List ℕ)) → AlikeNames (item_names item) x y → (says : List ℕ → Option Bool) → by_name x says item ≡ by_name y says item
name_same x y items.All alike says = refl
name_same x y (items.Name name) alike says = ap (λ (b : Bool). if b then Some true else None) alike.0
name_same x y (items.Alias name) alike says = refl

cmnd_same : (path other : List ℕ) (args others : List (List ℕ)) (item : CmndItem) → AlikeCmnds (cmnd_in item) path args other others
    → (says : List ℕ → Option Bool) → by_run path args says item ≡ by_run other others says item
cmnd_same path other args others (cmnds.Alias name) alike says = refl
cmnd_same path other args others (cmnds.Cmnd cmnd) alike says = ap (λ (b : Bool). if b then Some true else None) alike.0

pub names_same : (x y : List ℕ) (list : List (Signed (Item (List ℕ)))) → AlikeNames (names_in list) x y → AllByRecursion (Same (by_name x) (by_name y)) list
names_same x y list alike =
    let P : List ℕ → Type 0 = λ name. bytes_eq name x ≡ bytes_eq name y in
    all_weaker (λ s. AllByRecursion P (item_names s.item)) (Same (by_name x) (by_name y)) list
    (λ s. name_same x y s.item) (all_each P (λ s. item_names s.item) list alike)

pub cmnds_same : (path other : List ℕ) (args others : List (List ℕ)) (list : List (Signed CmndItem)) → AlikeCmnds (cmnds_in list) path args other others
    → AllByRecursion (Same (by_run path args) (by_run other others)) list
cmnds_same path other args others list alike =
    let P : Cmnd → Type 0 = λ c. matches c path args ≡ matches c other others in
    all_weaker (λ s. AllByRecursion P (cmnd_in s.item)) (Same (by_run path args) (by_run other others)) list
    (λ s. cmnd_same path other args others s.item) (all_each P (λ s. cmnd_in s.item) list alike)

pub alike_names : (defs : List (Definition (Item (List ℕ)))) (list : List (Signed (Item (List ℕ)))) (x y : List ℕ)
    → AlikeNames (flat_map (λ d. names_in d.list) defs) x y → AlikeNames (names_in list) x y → names_say defs x list ≡ names_say defs y list
alike_names defs list x y alike each =
    let P : List ℕ → Type 0 = λ name. bytes_eq name x ≡ bytes_eq name y in
    says_alike (by_name x) (by_name y) defs list
    (all_weaker (λ d. AllByRecursion P (names_in d.list)) (λ d. AllByRecursion (Same (by_name x) (by_name y)) d.list) defs
    (λ d. names_same x y d.list) (all_each P (λ d. names_in d.list) defs alike)) (names_same x y list each)

pub alike_cmnds : (defs : List (Definition CmndItem)) (list : List (Signed CmndItem)) (path other : List ℕ) (args others : List (List ℕ))
    → AlikeCmnds (flat_map (λ d. cmnds_in d.list) defs) path args other others → AlikeCmnds (cmnds_in list) path args other others
    → list_says_by (by_run path args) defs list ≡ list_says_by (by_run other others) defs list
alike_cmnds defs list path other args others alike each =
    let P : Cmnd → Type 0 = λ c. matches c path args ≡ matches c other others in
    says_alike (by_run path args) (by_run other others) defs list
    (all_weaker (λ d. AllByRecursion P (cmnds_in d.list)) (λ d. AllByRecursion (Same (by_run path args) (by_run other others)) d.list) defs
    (λ d. cmnds_same path other args others d.list) (all_each P (λ d. cmnds_in d.list) defs alike)) (cmnds_same path other args others list each)

-- ---- policies: each list of the entries, and so each definition

abbrev Each : {X : Type 0} → Saying X → Saying X → (Entry → List (Signed X)) → List Entry → Type 0
Each f g items_of es = AllByRecursion (λ e. AllByRecursion (Same f g) (items_of e)) es

-- the definitions that an entry gives have no other lists
abbrev Gives : {X : Type 0} → (Entry → List (Definition X)) → (Entry → List (Signed X)) → Type 1
Gives {X} def items_of = (P : Signed X → Type 0) (e : Entry) → AllByRecursion P (items_of e) → AllByRecursion (λ d. AllByRecursion P d.list) (def e)

user_gives : Gives user_def users_of
user_gives P (entries.UserAlias name list) all = (all, tt)
user_gives P (entries.RunasAlias name list) all = tt
user_gives P (entries.HostAlias name list) all = tt
user_gives P (entries.CmndAlias name list) all = tt
user_gives P (entries.Rule rule) all = tt

runas_gives : Gives runas_def runas_of
runas_gives P (entries.UserAlias name list) all = tt
runas_gives P (entries.RunasAlias name list) all = (all, tt)
runas_gives P (entries.HostAlias name list) all = tt
runas_gives P (entries.CmndAlias name list) all = tt
runas_gives P (entries.Rule rule) all = tt

host_gives : Gives host_def hosts_of
host_gives P (entries.UserAlias name list) all = tt
host_gives P (entries.RunasAlias name list) all = tt
host_gives P (entries.HostAlias name list) all = (all, tt)
host_gives P (entries.CmndAlias name list) all = tt
host_gives P (entries.Rule rule) all = tt

cmnd_gives : Gives cmnd_def cmnds_of
cmnd_gives P (entries.UserAlias name list) all = tt
cmnd_gives P (entries.RunasAlias name list) all = tt
cmnd_gives P (entries.HostAlias name list) all = tt
cmnd_gives P (entries.CmndAlias name list) all = (all, tt)
cmnd_gives P (entries.Rule rule) all = tt

defs_same : {X : Type 0} (f g : Saying X) (def : Entry → List (Definition X)) (items_of : Entry → List (Signed X)) (es : List Entry)
    → Gives def items_of → Each f g items_of es → AllByRecursion (λ d. AllByRecursion (Same f g) d.list) (flat_map def (reverse es))
defs_same {X} f g def items_of es gives each =
    let P : Definition X → Type 0 = λ d. AllByRecursion (Same f g) d.list in
    all_flat P def (reverse es)
    (all_reverse (λ e. AllByRecursion P (def e)) es
    (all_weaker (λ e. AllByRecursion (Same f g) (items_of e)) (λ e. AllByRecursion P (def e)) es (λ e. gives (Same f g) e) each))

each_name : (x y : List ℕ) (items_of : Entry → List (Signed (Item (List ℕ)))) (es : List Entry)
    → AlikeNames (flat_map (λ e. names_in (items_of e)) es) x y → Each (by_name x) (by_name y) items_of es
each_name x y items_of es alike =
    let P : List ℕ → Type 0 = λ name. bytes_eq name x ≡ bytes_eq name y in
    all_weaker (λ e. AllByRecursion P (names_in (items_of e))) (λ e. AllByRecursion (Same (by_name x) (by_name y)) (items_of e)) es
    (λ e. names_same x y (items_of e)) (all_each P (λ e. names_in (items_of e)) es alike)

each_cmnd : (path other : List ℕ) (args others : List (List ℕ)) (es : List Entry)
    → AlikeCmnds (standing.commands es) path args other others → Each (by_run path args) (by_run other others) cmnds_of es
each_cmnd path other args others es alike =
    let P : Cmnd → Type 0 = λ c. matches c path args ≡ matches c other others in
    all_weaker (λ e. AllByRecursion P (cmnds_in (cmnds_of e))) (λ e. AllByRecursion (Same (by_run path args) (by_run other others)) (cmnds_of e)) es
    (λ e. cmnds_same path other args others (cmnds_of e)) (all_each P (λ e. cmnds_in (cmnds_of e)) es alike)

-- ---- rules

module _ (p : List Entry) (i j : Invocation) (alike : Alike p i j) where
  users_defs : AllByRecursion (λ d. AllByRecursion (Same (by_name i.user) (by_name j.user)) d.list) (user_defs (reverse p))
  users_defs = defs_same (by_name i.user) (by_name j.user) user_def users_of p user_gives (each_name i.user j.user users_of p alike.user)

  hosts_defs : AllByRecursion (λ d. AllByRecursion (Same (by_name i.host) (by_name j.host)) d.list) (host_defs (reverse p))
  hosts_defs = defs_same (by_name i.host) (by_name j.host) host_def hosts_of p host_gives (each_name i.host j.host hosts_of p alike.host)

  targets_defs : AllByRecursion (λ d. AllByRecursion (Same (by_name i.runas) (by_name j.runas)) d.list) (runas_defs (reverse p))
  targets_defs = defs_same (by_name i.runas) (by_name j.runas) runas_def runas_of p runas_gives (each_name i.runas j.runas runas_of p alike.runas)

  commands_defs : AllByRecursion (λ d. AllByRecursion (Same (by_run i.path i.args) (by_run j.path j.args)) d.list) (cmnd_defs (reverse p))
  commands_defs = defs_same (by_run i.path i.args) (by_run j.path j.args) cmnd_def cmnds_of p cmnd_gives (each_cmnd i.path j.path i.args j.args p alike.cmnd)

  rule_alike : (r : Rule)
      → AllByRecursion (Same (by_name i.user) (by_name j.user)) r.users → AllByRecursion (Same (by_name i.host) (by_name j.host)) r.hosts
      → AllByRecursion (Same (by_name i.runas) (by_name j.runas)) r.runas → Same (by_run i.path i.args) (by_run j.path j.args) r.cmnd
      → takes_part r i.at ≡ takes_part r j.at → AnswersAlike (of_policy p i) (of_policy p j) r r
  rule_alike r users hosts runas cmnd dates = record {
    users = says_alike (by_name i.user) (by_name j.user) (user_defs (reverse p)) r.users users_defs users;
    hosts = says_alike (by_name i.host) (by_name j.host) (host_defs (reverse p)) r.hosts hosts_defs hosts;
    runas = says_alike (by_name i.runas) (by_name j.runas) (runas_defs (reverse p)) r.runas targets_defs runas;
    cmnd = ap (signed_answer r.cmnd.negated) (item_alike (by_run i.path i.args) (by_run j.path j.args) (cmnd_defs (reverse p)) r.cmnd commands_defs cmnd);
    dates = dates;
    tags = refl;
  }

  rules_alike : (es : List Entry) → Each (by_name i.user) (by_name j.user) users_of es → Each (by_name i.host) (by_name j.host) hosts_of es
      → Each (by_name i.runas) (by_name j.runas) runas_of es → Each (by_run i.path i.args) (by_run j.path j.args) cmnds_of es
      → AlikeMoments (rules_in es) i.at j.at → AllAnswerAlike (of_policy p i) (of_policy p j) (rules_in es) (rules_in es)
  rules_alike [] users hosts runas cmnds at = tt
  rules_alike (entries.UserAlias name list ∷ es) users hosts runas cmnds at = rules_alike es users.1 hosts.1 runas.1 cmnds.1 at
  rules_alike (entries.RunasAlias name list ∷ es) users hosts runas cmnds at = rules_alike es users.1 hosts.1 runas.1 cmnds.1 at
  rules_alike (entries.HostAlias name list ∷ es) users hosts runas cmnds at = rules_alike es users.1 hosts.1 runas.1 cmnds.1 at
  rules_alike (entries.CmndAlias name list ∷ es) users hosts runas cmnds at = rules_alike es users.1 hosts.1 runas.1 cmnds.1 at
  rules_alike (entries.Rule rule ∷ es) users hosts runas cmnds at =
      (rule_alike rule users.0 hosts.0 runas.0 cmnds.0.0 at.0, rules_alike es users.1 hosts.1 runas.1 cmnds.1 at.1)

-- a policy decides alike any two invocations that it answers alike
pub alike_decide : (es : List Entry) (i j : Invocation) (d : Decision) → Alike es i j → Decides es i d → Decides es j d
alike_decide es i j d alike =
    answers_decide (of_policy es i) (of_policy es j) es es d
    (rules_alike es i j alike es
    (each_name i.user j.user users_of es alike.user)
    (each_name i.host j.host hosts_of es alike.host)
    (each_name i.runas j.runas runas_of es alike.runas)
    (each_cmnd i.path j.path i.args j.args es alike.cmnd)
    alike.at)
