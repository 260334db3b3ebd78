-- The definition of an alias is found by its place: in a policy no other of its kind has its name.
use Rattle.std.proofs.Common.{◌≡◌, ℕ, suc, ◌+◌, ◌-◌, ◌<◌, ◌≤◌, Bool, true, false, ◌||◌, if◌then◌else◌, List, [], ◌∷◌, ◌++◌}
use Rattle.std.proofs.Common.{Option, None, length, take, drop, reverse, refl, sym, ap, ◌∙◌, subst, append_assoc, arith}
use Rattle.std.specs.List.{AllByRecursion, flat_map}
use Rattle.std.specs.Str.{bytes_eq}
use Rattle.std.proofs.lemmas.Bool.{or_parts, or_from}
use Rattle.std.proofs.lemmas.Grind.{flat_map-append}
use Rattle.std.proofs.lemmas.List.{append-nil, reverse-append, reverse-reverse, take_at, take-append-drop, take-append-le}
use Rattle.std.proofs.lemmas.List.Folds.{list_any-append}
use Rattle.std.proofs.lemmas.Slice.Eq.{bytes_eq-Decides}
use Rattle.std.proofs.Math.Seq.{take-append-add}
use Rattle.sudo_policy.specs.declared.entry.Signed.{Signed}
use Rattle.sudo_policy.specs.declared.entry.Entry.{Entry}
use Rattle.sudo_policy.specs.declared.tree.Definition.{Definition}
use Rattle.sudo_policy.specs.Alias.{by_definition, is_defined, DefinedAt}
use Rattle.sudo_policy.proofs.DefinedPlaces.{split_at}
use Rattle.sudo_decide.specs.Decision.{list_answer}
use Rattle.sudo_decide.specs.Kinds.{aliases_say, list_says_by, AreNew}

-- ---- tests

if_false : {X : Type 0} (b : Bool) (x y : X) → b ≡ false → (if b then x else y) ≡ y
if_false b x y h = ap (λ (t : Bool). if t then x else y) h

if_true : {X : Type 0} (b : Bool) (x y : X) → b ≡ true → (if b then x else y) ≡ x
if_true b x y h = ap (λ (t : Bool). if t then x else y) h

or_true : (a b : Bool) → b ≡ true → (a || b) ≡ true
or_true true b h = refl
or_true false b h = h

bytes_eq_refl : (name : List ℕ) → bytes_eq name name ≡ true
bytes_eq_refl name = (bytes_eq-Decides name name).1 refl

-- ---- definitions of other names are passed over

pub by_definition_passes : {X V : Type 0} (f : (List ℕ → V) → List (Signed X) → V) (u : V) (later above : List (Definition X)) (name : List ℕ)
    → is_defined later name ≡ false → by_definition f u (later ++ above) name ≡ by_definition f u above name
by_definition_passes f u [] above name none = refl
by_definition_passes f u (d ∷ later) above name none =
    let parts = or_parts (bytes_eq d.name name) (is_defined later name) none in
    if_false (bytes_eq d.name name) (f (by_definition f u (later ++ above)) d.list) (by_definition f u (later ++ above) name) parts.0
    ∙ by_definition_passes f u later above name parts.1

pub by_definition_none : {X V : Type 0} (f : (List ℕ → V) → List (Signed X) → V) (u : V) (defs : List (Definition X)) (name : List ℕ)
    → is_defined defs name ≡ false → by_definition f u defs name ≡ u
by_definition_none f u defs name none =
    ap (λ (ds : _). by_definition f u ds name) (sym (append-nil defs)) ∙ by_definition_passes f u defs [] name none

pub by_definition_finds :
    {X V : Type 0} (f : (List ℕ → V) → List (Signed X) → V) (u : V) (later : List (Definition X)) (d : Definition X) (above : List (Definition X))
    → is_defined later d.name ≡ false → by_definition f u (later ++ d ∷ above) d.name ≡ f (by_definition f u above) d.list
by_definition_finds f u later d above none =
    by_definition_passes f u later (d ∷ above) d.name none
    ∙ if_true (bytes_eq d.name d.name) (f (by_definition f u above) d.list) (by_definition f u above d.name) (bytes_eq_refl d.name)

-- ---- what some entries define

is_defined-append : {X : Type 0} (def : Entry → List (Definition X)) (es fs : List Entry) (name : List ℕ)
    → is_defined (flat_map def (es ++ fs)) name ≡ (is_defined (flat_map def es) name || is_defined (flat_map def fs) name)
is_defined-append {X} def es fs name =
    ap (λ (ds : List (Definition X)). is_defined ds name) (flat_map-append def es fs)
    ∙ list_any-append (λ d. bytes_eq d.name name) (flat_map def es) (flat_map def fs)

reverse-cons : {X : Type 0} (x : X) (xs : List X) → reverse (x ∷ xs) ≡ reverse xs ++ x ∷ []
reverse-cons x xs = reverse-append (x ∷ []) xs

none_reversed : {X : Type 0} (def : Entry → List (Definition X)) (es : List Entry) (name : List ℕ)
    → is_defined (flat_map def es) name ≡ false → is_defined (flat_map def (reverse es)) name ≡ false
none_reversed def [] name none = refl
none_reversed {X} def (e ∷ es) name none =
    let parts = or_parts (is_defined (flat_map def (e ∷ [])) name) (is_defined (flat_map def es) name) (sym (is_defined-append def (e ∷ []) es name) ∙ none) in
    ap (λ (fs : List Entry). is_defined (flat_map def fs) name) (reverse-cons e es)
    ∙ is_defined-append def (reverse es) (e ∷ []) name
    ∙ or_from (is_defined (flat_map def (reverse es)) name) (is_defined (flat_map def (e ∷ [])) name) (none_reversed def es name parts.1) parts.0

none_in_front : {X : Type 0} (def : Entry → List (Definition X)) (n : ℕ) (es : List Entry) (name : List ℕ)
    → is_defined (flat_map def es) name ≡ false → is_defined (flat_map def (take n es)) name ≡ false
none_in_front def n es name none =
    let parts =
    or_parts (is_defined (flat_map def (take n es)) name) (is_defined (flat_map def (drop n es)) name)
    (sym (is_defined-append def (take n es) (drop n es) name) ∙ ap (λ (fs : List Entry). is_defined (flat_map def fs) name) (take-append-drop n es) ∙ none) in
    parts.0

-- ---- what is defined above is not defined again

-- a name that is not defined differs from one that is
new_differs : {X : Type 0} (defs : List (Definition X)) (new name : List ℕ) (b : Bool)
    → bytes_eq new name ≡ b → is_defined defs new ≡ false → is_defined defs name ≡ true → b ≡ false
new_differs defs new name false is fresh known = refl
new_differs defs new name true is fresh known =
    let same : new ≡ name = (bytes_eq-Decides new name).0 is in
    let both : true ≡ false = sym known ∙ sym (ap (is_defined defs) same) ∙ fresh in
    both

new_are_others : {X : Type 0} (defs ds : List (Definition X)) (name : List ℕ)
    → AllByRecursion (λ d. is_defined defs d.name ≡ false) ds → is_defined defs name ≡ true → is_defined ds name ≡ false
new_are_others defs [] name new known = refl
new_are_others defs (d ∷ ds) name new known =
    or_from (bytes_eq d.name name) (is_defined ds name) (new_differs defs d.name name (bytes_eq d.name name) refl new.0 known)
    (new_are_others defs ds name new.1 known)

not_again : {X : Type 0} (def : Entry → List (Definition X)) (above es : List Entry) (name : List ℕ)
    → AreNew def above es → is_defined (flat_map def above) name ≡ true → is_defined (flat_map def es) name ≡ false
not_again def above [] name new known = refl
not_again def above (e ∷ es) name new known =
    let still : is_defined (flat_map def (e ∷ above)) name ≡ true =
    is_defined-append def (e ∷ []) above name
    ∙ or_true (is_defined (flat_map def (e ∷ [])) name) (is_defined (flat_map def above) name) known in
    let here : is_defined (flat_map def (e ∷ [])) name ≡ false =
    ap (λ (ds : _). is_defined ds name) (append-nil (def e)) ∙ new_are_others (flat_map def above) (def e) name new.0 known in
    is_defined-append def (e ∷ []) es name
    ∙ or_from (is_defined (flat_map def (e ∷ [])) name) (is_defined (flat_map def es) name) here (not_again def (e ∷ above) es name new.1 still)

-- the entries after some others define new aliases, below those
new_behind : {X : Type 0} (def : Entry → List (Definition X)) (above before rest : List Entry)
    → AreNew def above (before ++ rest) → AreNew def (reverse before ++ above) rest
new_behind def above [] rest new = new
new_behind def above (e ∷ before) rest new =
    let P : List Entry → Type 0 = λ es. AreNew def es rest in
    let order : reverse (e ∷ before) ++ above ≡ reverse before ++ e ∷ above =
    ap (λ (es : List Entry). es ++ above) (reverse-cons e before) ∙ append_assoc (reverse before) (e ∷ []) above in
    subst P (sym order) (new_behind def (e ∷ above) before rest new.1)

-- ---- a definition by its place

-- what a definition at a place tells about the others: none above it has its name, and none below it
record Once {X : Type 0} (def : Entry → List (Definition X)) (before after : List Entry) (name : List ℕ) : Type 0 where
  above : is_defined (flat_map def before) name ≡ false
  below : is_defined (flat_map def after) name ≡ false

is_once : {X : Type 0} (def : Entry → List (Definition X)) (before : List Entry) (entry : Entry) (after : List Entry) (d : Definition X)
    → def entry ≡ d ∷ [] → AreNew def [] (before ++ entry ∷ after) → Once def before after d.name
is_once {X} def before entry after d is new =
    let P : List Entry → Type 0 = λ es. AreNew def es (entry ∷ after) in
    let placed : AreNew def (reverse before) (entry ∷ after) = subst P (append-nil (reverse before)) (new_behind def [] before (entry ∷ after) new) in
    let Q : List (Definition X) → Type 0 = λ ds. AllByRecursion (λ e. is_defined (flat_map def (reverse before)) e.name ≡ false) ds in
    let fresh : is_defined (flat_map def (reverse before)) d.name ≡ false = (subst Q is placed.0).0 in
    let known : is_defined (flat_map def (entry ∷ reverse before)) d.name ≡ true =
    ap (λ (ds : List (Definition X)). is_defined (ds ++ flat_map def (reverse before)) d.name) is
    ∙ ap (λ (b : Bool). b || is_defined (flat_map def (reverse before)) d.name) (bytes_eq_refl d.name) in
    record {
      above =
          ap (λ (es : List Entry). is_defined (flat_map def es) d.name) (sym (reverse-reverse before))
          ∙ none_reversed def (reverse before) d.name fresh;
      below = not_again def (entry ∷ reverse before) after d.name placed.1 known;
    }

-- the entries above a place that lies below the definition
front_below : (before : List Entry) (entry : Entry) (after : List Entry) (below : ℕ) → length before < below
    → reverse (take below (before ++ entry ∷ after)) ≡ reverse (take (below - (length before + 1)) after) ++ entry ∷ reverse before
front_below before entry after below within =
    let rest : ℕ = below - (length before + 1) in
    let split : below ≡ length before + suc rest = omega arith in
    ap (λ (n : ℕ). reverse (take n (before ++ entry ∷ after))) split
    ∙ ap reverse (take-append-add before (entry ∷ after) (suc rest))
    ∙ reverse-append before (entry ∷ take rest after)
    ∙ ap (λ (es : List Entry). es ++ reverse before) (reverse-cons entry (take rest after))
    ∙ append_assoc (reverse (take rest after)) (entry ∷ []) (reverse before)

-- the entries above a place that does not lie below the definition
front_above : (before rest : List Entry) (below : ℕ) → below ≤ length before → take below (before ++ rest) ≡ take below before
front_above before rest below within = take-append-le below before rest within

-- an alias that is defined above a place has the value of its list, by the definitions above its own
pub defined_above : {X V : Type 0} (f : (List ℕ → V) → List (Signed X) → V) (u : V) (def : Entry → List (Definition X)) (es : List Entry)
    (place below : ℕ) (name : List ℕ) (list : List (Signed X))
    → AreNew def [] es → DefinedAt def es place name list → place < below
    → by_definition f u (flat_map def (reverse (take below es))) name ≡ f (by_definition f u (flat_map def (reverse (take place es)))) list
defined_above {X} {V} f u def es place below name list new defined within =
    let at = split_at def es place name list defined in
    let d : Definition X = record { name = name; list = list } in
    let P : List Entry → Type 0 = λ fs. AreNew def [] fs in
    let once = is_once def at.before at.entry at.after d at.def_is (subst P at.entries_are new) in
    let within_it : length at.before < below = omega arith in
    let rest : ℕ = below - (length at.before + 1) in
    let front : reverse (take below es) ≡ reverse (take rest at.after) ++ at.entry ∷ reverse at.before =
    ap (λ (fs : List Entry). reverse (take below fs)) at.entries_are ∙ front_below at.before at.entry at.after below within_it in
    let above : take place es ≡ at.before =
    ap (take place) at.entries_are ∙ take_at at.before (at.entry ∷ at.after) place (sym at.place_is) in
    let later : is_defined (flat_map def (reverse (take rest at.after))) name ≡ false =
    none_reversed def (take rest at.after) name (none_in_front def rest at.after name once.below) in
    let defs : flat_map def (reverse (take below es)) ≡ flat_map def (reverse (take rest at.after)) ++ d ∷ flat_map def (reverse at.before) =
    ap (flat_map def) front
    ∙ flat_map-append def (reverse (take rest at.after)) (at.entry ∷ reverse at.before)
    ∙ ap (λ (ds : List (Definition X)). flat_map def (reverse (take rest at.after)) ++ (ds ++ flat_map def (reverse at.before))) at.def_is in
    ap (λ (ds : List (Definition X)). by_definition f u ds name) defs
    ∙ by_definition_finds f u (flat_map def (reverse (take rest at.after))) d (flat_map def (reverse at.before)) later
    ∙ ap (λ (fs : List Entry). f (by_definition f u (flat_map def (reverse fs))) list) (sym above)

-- an alias that is defined at the place or below it has the value of an unknown name
pub defined_below : {X V : Type 0} (f : (List ℕ → V) → List (Signed X) → V) (u : V) (def : Entry → List (Definition X)) (es : List Entry)
    (place below : ℕ) (name : List ℕ) (list : List (Signed X))
    → AreNew def [] es → DefinedAt def es place name list → below ≤ place
    → by_definition f u (flat_map def (reverse (take below es))) name ≡ u
defined_below {X} f u def es place below name list new defined within =
    let at = split_at def es place name list defined in
    let d : Definition X = record { name = name; list = list } in
    let P : List Entry → Type 0 = λ fs. AreNew def [] fs in
    let once = is_once def at.before at.entry at.after d at.def_is (subst P at.entries_are new) in
    let within_it : below ≤ length at.before = omega arith in
    let front : take below es ≡ take below at.before =
    ap (take below) at.entries_are ∙ front_above at.before (at.entry ∷ at.after) below within_it in
    by_definition_none f u (flat_map def (reverse (take below es))) name
    (none_reversed def (take below es) name
    (ap (λ (fs : List Entry). is_defined (flat_map def fs) name) front ∙ none_in_front def below at.before name once.above))

-- so has an alias that is not defined at all
pub defined_nowhere :
    {X V : Type 0} (f : (List ℕ → V) → List (Signed X) → V) (u : V) (def : Entry → List (Definition X)) (es : List Entry) (below : ℕ) (name : List ℕ)
    → is_defined (flat_map def es) name ≡ false → by_definition f u (flat_map def (reverse (take below es))) name ≡ u
defined_nowhere f u def es below name none =
    by_definition_none f u (flat_map def (reverse (take below es))) name (none_reversed def (take below es) name (none_in_front def below es name none))

-- ---- what an alias says above a place

pub alias_says_its_list : {X : Type 0} (item_says : (List ℕ → Option Bool) → X → Option Bool) (def : Entry → List (Definition X)) (es : List Entry)
    (place below : ℕ) (name : List ℕ) (list : List (Signed X))
    → AreNew def [] es → DefinedAt def es place name list → place < below
    → aliases_say item_says (flat_map def (reverse (take below es))) name ≡ list_says_by item_says (flat_map def (reverse (take place es))) list
alias_says_its_list item_says def es place below name list new at within =
    defined_above (λ says items. list_answer (item_says says) items) None def es place below name list new at within

pub alias_below_is_silent : {X : Type 0} (item_says : (List ℕ → Option Bool) → X → Option Bool) (def : Entry → List (Definition X)) (es : List Entry)
    (place below : ℕ) (name : List ℕ) (list : List (Signed X))
    → AreNew def [] es → DefinedAt def es place name list → below ≤ place
    → aliases_say item_says (flat_map def (reverse (take below es))) name ≡ None
alias_below_is_silent item_says def es place below name list new at within =
    defined_below (λ says items. list_answer (item_says says) items) None def es place below name list new at within

pub unknown_alias_is_silent :
    {X : Type 0} (item_says : (List ℕ → Option Bool) → X → Option Bool) (def : Entry → List (Definition X)) (es : List Entry) (below : ℕ) (name : List ℕ)
    → is_defined (flat_map def es) name ≡ false → aliases_say item_says (flat_map def (reverse (take below es))) name ≡ None
unknown_alias_is_silent item_says def es below name none =
    defined_nowhere (λ says items. list_answer (item_says says) items) None def es below name none

-- an alias says what its list says, where the definitions after its own have other names
pub alias_says_by_definition : {X : Type 0} (item_says : (List ℕ → Option Bool) → X → Option Bool) (later above : List (Definition X)) (d : Definition X)
    → is_defined later d.name ≡ false → aliases_say item_says (later ++ d ∷ above) d.name ≡ list_says_by item_says above d.list
alias_says_by_definition item_says later above d none =
    by_definition_finds (λ says items. list_answer (item_says says) items) None later d above none
