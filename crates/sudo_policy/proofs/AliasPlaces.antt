-- An alias of a policy has the value of its list, by all of the policy's definitions.
use Rattle.std.proofs.Common.{◌≡◌, ℕ, ◌+◌, max, Bool, true, false, ◌||◌, if◌then◌else◌, List, [], ◌∷◌}
use Rattle.std.proofs.Common.{◌++◌, reverse, Option, Some, None, refl, sym, ap, subst, ◌∙◌, append_assoc}
use Rattle.std.specs.Prelude.{IfSome}
use Rattle.std.specs.List.{flat_map}
use Rattle.std.specs.Str.{bytes_eq}
use Rattle.std.proofs.lemmas.Bool.{or_parts, or_from}
use Rattle.std.proofs.lemmas.Grind.{flat_map-append}
use Rattle.std.proofs.lemmas.List.{append-nil, reverse-append}
use Rattle.std.proofs.lemmas.List.Folds.{list_any-append}
use Rattle.std.proofs.lemmas.List.Sums.{sum_by-cons}
use Rattle.std.proofs.lemmas.Slice.Eq.{bytes_eq-Decides}
use Rattle.sudo_policy.specs.declared.entry.Signed.{Signed}
use Rattle.sudo_policy.specs.declared.entry.Entry.{Entry}
use Rattle.sudo_policy.specs.declared.entry.Entry.TheVariants as entries
use Rattle.sudo_policy.specs.declared.tree.Definition.{Definition}
use Rattle.sudo_policy.specs.Alias.{DefinedAt, by_definition, is_defined, item_alias, cmnd_alias, KnowsList, user_def}
use Rattle.sudo_policy.specs.Alias.{runas_def, host_def, cmnd_def, item_weight, list_weight, item_depth, list_depth, depth_of}
use Rattle.sudo_policy.specs.Policy.{IsPlaced, ArePlaced, IsPolicy}
use Rattle.sudo_policy.specs.Aliased.{EachWeighsItsList}
use Rattle.sudo_policy.proofs.DefinedPlaces.{split_at}

-- ---- definitions, each of which is new and uses only those after it in the list

abbrev pub AreFresh : {X : Type 0} → (X → Option (List ℕ)) → List (Definition X) → Type 0
AreFresh alias_of [] = Unit {0}
AreFresh alias_of (d ∷ ds) = (is_defined ds d.name ≡ false) × KnowsList alias_of ds d.list × AreFresh alias_of ds

or_second : (a b : Bool) → b ≡ true → (a || b) ≡ true
or_second true b h = refl
or_second false b h = h

is_defined-append : {X : Type 0} (ds es : List (Definition X)) (name : List ℕ) → is_defined (ds ++ es) name ≡ (is_defined ds name || is_defined es name)
is_defined-append ds es name = list_any-append (λ d. bytes_eq d.name name) ds es

-- a name that is defined is not a new one
differs : {X : Type 0} (defs : List (Definition X)) (new name : List ℕ) (b : Bool)
    → bytes_eq new name ≡ b → is_defined defs new ≡ false → is_defined defs name ≡ true → b ≡ false
differs defs new name false is fresh known = refl
differs defs new name true is fresh known =
    let same : new ≡ name = (bytes_eq-Decides new name).0 is in
    let both : true ≡ false = sym known ∙ sym (ap (is_defined defs) same) ∙ fresh in
    both

-- a name that the back part defines is not defined by the front part
front_new : {X : Type 0} (alias_of : X → Option (List ℕ)) (front back : List (Definition X)) (name : List ℕ)
    → AreFresh alias_of (front ++ back) → is_defined back name ≡ true → is_defined front name ≡ false
front_new alias_of [] back name fresh known = refl
front_new alias_of (d ∷ front) back name fresh known =
    let all : is_defined (front ++ back) name ≡ true = is_defined-append front back name ∙ or_second (is_defined front name) (is_defined back name) known in
    or_from (bytes_eq d.name name) (is_defined front name) (differs (front ++ back) d.name name (bytes_eq d.name name) refl fresh.0 all)
    (front_new alias_of front back name fresh.2 known)

if_false : {V : Type 0} (b : Bool) (x y : V) → b ≡ false → (if b then x else y) ≡ y
if_false b x y h = ap (λ (t : Bool). if t then x else y) h

if_true : {V : Type 0} (b : Bool) (x y : V) → b ≡ true → (if b then x else y) ≡ x
if_true b x y h = ap (λ (t : Bool). if t then x else y) h

passes : {X V : Type 0} (f : (List ℕ → V) → List (Signed X) → V) (u : V) (front back : List (Definition X)) (name : List ℕ)
    → is_defined front name ≡ false → by_definition f u (front ++ back) name ≡ by_definition f u back name
passes f u [] back name none = refl
passes f u (d ∷ front) back name none =
    let parts = or_parts (bytes_eq d.name name) (is_defined front name) none in
    if_false (bytes_eq d.name name) (f (by_definition f u (front ++ back)) d.list) (by_definition f u (front ++ back) name) parts.0
    ∙ passes f u front back name parts.1

-- ---- the value of an alias by all definitions

-- the value of a list depends only on the values of the aliases in it
abbrev pub DependsOnAliases : {X V : Type 0} → (X → Option (List ℕ)) → ((List ℕ → V) → List (Signed X) → V) → Type 0
DependsOnAliases {X} {V} alias_of f =
    (v w : List ℕ → V) (defs : List (Definition X)) (list : List (Signed X))
    → ((n : List ℕ) → is_defined defs n ≡ true → v n ≡ w n) → KnowsList alias_of defs list → f v list ≡ f w list

fresh_tail : {X : Type 0} (alias_of : X → Option (List ℕ)) (front back : List (Definition X)) → AreFresh alias_of (front ++ back) → AreFresh alias_of back
fresh_tail alias_of [] back fresh = fresh
fresh_tail alias_of (d ∷ front) back fresh = fresh_tail alias_of front back fresh.2

of_its_list : {X V : Type 0} (alias_of : X → Option (List ℕ)) (f : (List ℕ → V) → List (Signed X) → V) (u : V) (front : List (Definition X))
    (d : Definition X) (back : List (Definition X)) → DependsOnAliases alias_of f → AreFresh alias_of (front ++ d ∷ back)
    → by_definition f u (front ++ d ∷ back) d.name ≡ f (by_definition f u (front ++ d ∷ back)) d.list
of_its_list {X} {V} alias_of f u front d back depends fresh =
    let self : bytes_eq d.name d.name ≡ true = (bytes_eq-Decides d.name d.name).1 refl in
    let here : is_defined (d ∷ back) d.name ≡ true = ap (λ (b : Bool). b || is_defined back d.name) self in
    let tail = fresh_tail alias_of front (d ∷ back) fresh in
    let same : (n : List ℕ) → is_defined back n ≡ true → by_definition f u back n ≡ by_definition f u (front ++ d ∷ back) n = λ n known.
    sym (passes f u front (d ∷ back) n (front_new alias_of front (d ∷ back) n fresh (or_second (bytes_eq d.name n) (is_defined back n) known)) ∙ if_false
    (bytes_eq d.name n) (f (by_definition f u back) d.list) (by_definition f u back n) (differs back d.name n (bytes_eq d.name n) refl tail.0 known)) in
    passes f u front (d ∷ back) d.name (front_new alias_of front (d ∷ back) d.name fresh here)
    ∙ if_true (bytes_eq d.name d.name) (f (by_definition f u back) d.list) (by_definition f u back d.name) self
    ∙ depends (by_definition f u back) (by_definition f u (front ++ d ∷ back)) back d.list same tail.1

-- ---- the definitions of a policy are fresh, in each kind

abbrev pub Step : {X : Type 0} → (X → Option (List ℕ)) → (Entry → List (Definition X)) → Type 0
Step alias_of def = (above : List Entry) (e : Entry) → IsPlaced above e → AreFresh alias_of (flat_map def above) → AreFresh alias_of (flat_map def (e ∷ above))

pub user_step : Step item_alias user_def
user_step above (entries.UserAlias name list) p fresh = (p.new, p.knows, fresh)
user_step above (entries.RunasAlias name list) p fresh = fresh
user_step above (entries.HostAlias name list) p fresh = fresh
user_step above (entries.CmndAlias name list) p fresh = fresh
user_step above (entries.Rule rule) p fresh = fresh

pub runas_step : Step item_alias runas_def
runas_step above (entries.UserAlias name list) p fresh = fresh
runas_step above (entries.RunasAlias name list) p fresh = (p.new, p.knows, fresh)
runas_step above (entries.HostAlias name list) p fresh = fresh
runas_step above (entries.CmndAlias name list) p fresh = fresh
runas_step above (entries.Rule rule) p fresh = fresh

pub host_step : Step item_alias host_def
host_step above (entries.UserAlias name list) p fresh = fresh
host_step above (entries.RunasAlias name list) p fresh = fresh
host_step above (entries.HostAlias name list) p fresh = (p.new, p.knows, fresh)
host_step above (entries.CmndAlias name list) p fresh = fresh
host_step above (entries.Rule rule) p fresh = fresh

pub cmnd_step : Step cmnd_alias cmnd_def
cmnd_step above (entries.UserAlias name list) p fresh = fresh
cmnd_step above (entries.RunasAlias name list) p fresh = fresh
cmnd_step above (entries.HostAlias name list) p fresh = fresh
cmnd_step above (entries.CmndAlias name list) p fresh = (p.new, p.knows, fresh)
cmnd_step above (entries.Rule rule) p fresh = fresh

fresh_below : {X : Type 0} (alias_of : X → Option (List ℕ)) (def : Entry → List (Definition X)) (above es : List Entry)
    → Step alias_of def → ArePlaced above es → AreFresh alias_of (flat_map def above) → AreFresh alias_of (flat_map def (reverse es ++ above))
fresh_below alias_of def above [] step placed fresh = fresh
fresh_below alias_of def above (e ∷ es) step placed fresh =
    let order : reverse (e ∷ es) ++ above ≡ reverse es ++ e ∷ above =
    ap (λ (x : List Entry). x ++ above) (reverse-append (e ∷ []) es) ∙ append_assoc (reverse es) (e ∷ []) above in
    subst (λ (x : List Entry). AreFresh alias_of (flat_map def x)) (sym order)
    (fresh_below alias_of def (e ∷ above) es step placed.1 (step above e placed.0 fresh))

-- ---- the value of an alias that is defined at a place

pub by_all : {X V : Type 0} (alias_of : X → Option (List ℕ)) (def : Entry → List (Definition X)) (f : (List ℕ → V)
    → List (Signed X) → V) (u : V) (es : List Entry) (place : ℕ) (name : List ℕ) (list : List (Signed X))
    → DependsOnAliases alias_of f → Step alias_of def → ArePlaced [] es → DefinedAt def es place name list
    → by_definition f u (flat_map def (reverse es)) name ≡ f (by_definition f u (flat_map def (reverse es))) list
by_all {X} {V} alias_of def f u es place name list depends step placed defined =
    let at = split_at def es place name list defined in
    let d : Definition X = record { name = name; list = list } in
    let front = flat_map def (reverse at.after) in
    let back = flat_map def (reverse at.before) in
    let order : reverse es ≡ reverse at.after ++ at.entry ∷ reverse at.before =
    ap reverse at.entries_are ∙ reverse-append at.before (at.entry ∷ at.after)
    ∙ ap (λ (x : List Entry). x ++ reverse at.before) (reverse-append (at.entry ∷ []) at.after)
    ∙ append_assoc (reverse at.after) (at.entry ∷ []) (reverse at.before) in
    let defs : flat_map def (reverse es) ≡ front ++ d ∷ back =
    ap (flat_map def) order
    ∙ flat_map-append def (reverse at.after) (at.entry ∷ reverse at.before)
    ∙ ap (λ (ds : List (Definition X)). front ++ (ds ++ back)) at.def_is in
    let fresh : AreFresh alias_of (flat_map def (reverse es)) =
    subst (λ (x : List Entry). AreFresh alias_of (flat_map def x)) (append-nil (reverse es)) (fresh_below alias_of def [] es step placed tt) in
    subst (λ (ds : List (Definition X)). by_definition f u ds name ≡ f (by_definition f u ds) list) (sym defs)
    (of_its_list alias_of f u front d back depends (subst (AreFresh alias_of) defs fresh))

-- ---- weights and depths

item_weight_same : (v w : List ℕ → ℕ) (P : List ℕ → Type 0) (o : Option (List ℕ))
    → ((n : List ℕ) → P n → v n ≡ w n) → IfSome o P → item_weight v o ≡ item_weight w o
item_weight_same v w P None same known = refl
item_weight_same v w P (Some n) same known = same n known

item_depth_same : (v w : List ℕ → ℕ) (P : List ℕ → Type 0) (o : Option (List ℕ))
    → ((n : List ℕ) → P n → v n ≡ w n) → IfSome o P → item_depth v o ≡ item_depth w o
item_depth_same v w P None same known = refl
item_depth_same v w P (Some n) same known = same n known

weight_depends : {X : Type 0} (alias_of : X → Option (List ℕ)) → DependsOnAliases alias_of (list_weight alias_of)
weight_depends alias_of v w defs [] same knows = refl
weight_depends {X} alias_of v w defs (s ∷ list) same knows =
    sum_by-cons (λ (x : Signed X). item_weight v (alias_of x.item)) s list
    ∙ ap (λ (n : ℕ). n + list_weight alias_of v list) (item_weight_same v w (λ n. is_defined defs n ≡ true) (alias_of s.item) same knows.0)
    ∙ ap (λ (n : ℕ). item_weight w (alias_of s.item) + n) (weight_depends alias_of v w defs list same knows.1)
    ∙ sym (sum_by-cons (λ (x : Signed X). item_weight w (alias_of x.item)) s list)

depths_same : {X : Type 0} (alias_of : X → Option (List ℕ)) (v w : List ℕ → ℕ) (defs : List (Definition X)) (list : List (Signed X))
    → ((n : List ℕ) → is_defined defs n ≡ true → v n ≡ w n) → KnowsList alias_of defs list → list_depth alias_of v list ≡ list_depth alias_of w list
depths_same alias_of v w defs [] same knows = refl
depths_same alias_of v w defs (s ∷ list) same knows =
    ap (λ (n : ℕ). max n (list_depth alias_of v list)) (item_depth_same v w (λ n. is_defined defs n ≡ true) (alias_of s.item) same knows.0)
    ∙ ap (λ (n : ℕ). max (item_depth w (alias_of s.item)) n) (depths_same alias_of v w defs list same knows.1)

depth_depends : {X : Type 0} (alias_of : X → Option (List ℕ)) → DependsOnAliases alias_of (depth_of alias_of)
depth_depends alias_of v w defs list same knows = ap (λ (n : ℕ). 1 + n) (depths_same alias_of v w defs list same knows)

weighs : {X : Type 0} (alias_of : X → Option (List ℕ)) (def : Entry → List (Definition X))
    → Step alias_of def → (es : List Entry) → IsPolicy es → EachWeighsItsList alias_of def es
weighs alias_of def step es policy place name list at = record {
  weight = by_all alias_of def (list_weight alias_of) 0 es place name list (weight_depends alias_of) step policy.placed at;
  depth = by_all alias_of def (depth_of alias_of) 0 es place name list (depth_depends alias_of) step policy.placed at;
}

pub users_weigh : (es : List Entry) → IsPolicy es → EachWeighsItsList item_alias user_def es
users_weigh = weighs item_alias user_def user_step

pub runas_weigh : (es : List Entry) → IsPolicy es → EachWeighsItsList item_alias runas_def es
runas_weigh = weighs item_alias runas_def runas_step

pub hosts_weigh : (es : List Entry) → IsPolicy es → EachWeighsItsList item_alias host_def es
hosts_weigh = weighs item_alias host_def host_step

pub cmnds_weigh : (es : List Entry) → IsPolicy es → EachWeighsItsList cmnd_alias cmnd_def es
cmnds_weigh = weighs cmnd_alias cmnd_def cmnd_step
