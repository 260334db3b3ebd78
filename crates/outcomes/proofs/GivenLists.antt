-- What the summaries of a set give in turn.
use Rattle.std.proofs.Common.{◌≡◌, ℕ, true, List, [], ◌∷◌, ◌++◌, Option, Some, None, refl, sym, ap, ◌∙◌, subst, inl, inr, append_assoc}
use Rattle.std.proofs.lemmas.List.{append-nil}
use Rattle.std.specs.List.{Contains, AllByRecursion}
use Rattle.std.specs.List.Sorted.{IsStrictlySortedBy}
use Rattle.std.specs.Map.{keys_of, values_of}
use Rattle.std.specs.BTreeMap.{BTreeMap, values}
use Rattle.std.specs.declared.cmp.Ordering.TheVariants.{Less}
use Rattle.std.proofs.lemmas.List.Elements.{Contains-append_left, Contains-append_right, Contains-append_cases}
use Rattle.std.proofs.lemmas.Map.Keys.{sorted_head, sorted_tail}
use Rattle.sudo_words.specs.declared.cmnd.Cmnd.{Cmnd}
use Rattle.messages.specs.Fields.{RequestFields}
use Rattle.messages.specs.Names.{IsNamed, NamePrecedes, name_cmp, name_of}
use Rattle.messages.specs.declared.request_name.RequestName.{RequestName}
use Rattle.messages.specs.declared.message.Message.{Message}
use Rattle.messages.specs.declared.message.Message.TheVariants.{Request}
use Rattle.roster.specs.Fields.{RosterFields}
use Rattle.grants.specs.Statuses.{IsStatus}
use Rattle.grants.specs.Summaries.{Kept, StandsFor}
use Rattle.grants.specs.Verdicts.{StandsAlone}
use Rattle.grants.specs.declared.outcome.Status.{Status}
use Rattle.grants.proofs.StatusLaws.{one_status}
use Rattle.messages.specs.Order.{AreInOrder}
use Rattle.messages.proofs.NameOrder.{lower_from_less}
use Rattle.outcomes.specs.Summaries.{SummaryPrecedes}
use Rattle.outcomes.specs.private.ByName.{Gathers, IsSummaryOf, at_name}
use Rattle.outcomes.specs.private.Index.{if_kept, is_left}
use Rattle.outcomes.specs.private.InTurn.{Adds, AddsAt, Give}
use Rattle.outcomes.proofs.GatherLemmas.{IsAt}
use Rattle.outcomes.proofs.Membership.{no_member, Contains-head, Contains-behind, Contains-cases}
use Rattle.outcomes.proofs.NameMaps.{at_entry, value_at, value_from_entry}
use Rattle.outcomes.proofs.Orders.{behind_each, behind_from_each, ordered_both}
use Rattle.outcomes.proofs.Standing.{name_from_named}

-- ---- the summaries in turn

name_above : (k : RequestName) (es : List (RequestName × Kept)) → AllByRecursion (λ y. name_cmp k y ≡ Less) (keys_of es)
    → (e : RequestName × Kept) → Contains es e → name_cmp k e.0 ≡ Less
name_above k [] all e m = absurd (no_member e m)
name_above k (f ∷ es) all e m =
    elim (Contains-cases f es e m) as (λ _. name_cmp k e.0 ≡ Less) [
      | inl same ↦ subst (λ (x : RequestName × Kept). name_cmp k x.0 ≡ Less) same all.0
      | inr later ↦ name_above k es all.1 e later
    ]

abbrev NamedAll : List (RequestName × Kept) → Type 0
NamedAll es = (e : RequestName × Kept) → Contains es e → name_of e.1.request ≡ e.0

entries_in_order : (es : List (RequestName × Kept)) → IsStrictlySortedBy name_cmp (keys_of es) → NamedAll es → AreInOrder SummaryPrecedes (values_of es)
entries_in_order [] sorted named = tt
entries_in_order (e ∷ es) sorted named = (
  behind_from_each SummaryPrecedes e.1 (values_of es) (λ k m.
      let found = value_from_entry es k m in
      let less = name_above e.0 es (sorted_head name_cmp e.0 (keys_of es) sorted) found.0 found.1 in
      let before : NamePrecedes e.0 found.0.0 = lower_from_less e.0 found.0.0 less in
      let here : name_of e.1.request ≡ e.0 = named e (Contains-head e es) in
      let there : name_of found.0.1.request ≡ found.0.0 = named found.0 (Contains-behind e es found.0 found.1) in
      subst (SummaryPrecedes e.1) found.2
      (subst (λ (n : RequestName). NamePrecedes n (name_of found.0.1.request)) (sym here) (subst (NamePrecedes e.0) (sym there) before))),
  entries_in_order es (sorted_tail name_cmp e.0 (keys_of es) sorted) (λ f m. named f (Contains-behind e es f m)),
)

module _ (set : List Message) (m : BTreeMap RequestName Kept) (g : Gathers set m) where
  entry_kept : (e : RequestName × Kept) → Contains m.entries e → IsSummaryOf set e.0 e.1
  entry_kept e among =
      subst (IsAt set e.0) (at_entry m g.ordered e among) (g.each e.0)

  pub kept_in_order : AreInOrder SummaryPrecedes (values m)
  kept_in_order =
      entries_in_order m.entries g.ordered (λ e among. let is = entry_kept e among in name_from_named e.1.request e.0 is.named)

  pub kept_stands : (k : Kept) → Contains (values m) k → StandsFor set k
  kept_stands k among =
      let found = value_from_entry m.entries k among in
      subst (StandsFor set) found.2 (entry_kept found.0 found.1).stands

  -- a name that somebody asks under has a summary
  pub kept_asked : (q : RequestFields) → Contains set (Request q) → (k : Kept) × Contains (values m) k × IsNamed k.request (name_of q)
  kept_asked q asked = at (at_name m (name_of q)) refl (g.each (name_of q))
    where
      at : (o : Option Kept) → at_name m (name_of q) ≡ o → IsAt set (name_of q) o → (k : Kept) × Contains (values m) k × IsNamed k.request (name_of q)
      at None was nobody = absurd (nobody q asked (refl, refl))
      at (Some k) was is = (k, value_at m (name_of q) k was, is.named)

  -- a request that stands alone is the request of a summary
  pub kept_alone : (q : RequestFields) → StandsAlone set q → (k : Kept) × Contains (values m) k × (k.request ≡ q)
  kept_alone q alone =
      let found = kept_asked q alone.asked in
      (found.0, found.1, alone.alone found.0.request (kept_stands found.0 found.1).asked found.2)

-- Summaries of the set, in the order of their names; a request that stands alone, and of which P holds, is the request of one of them.
pub record IsRollOf (set : List Message) (P : RequestFields → Type 0) (ks : List Kept) : Type 0 where
  pub in_order : AreInOrder SummaryPrecedes ks
  pub stands : (k : Kept) → Contains ks k → StandsFor set k
  pub alone : (q : RequestFields) → StandsAlone set q → P q → (k : Kept) × Contains ks k × (k.request ≡ q)

-- and each request that stands alone
abbrev pub IsRoll : List Message → List Kept → Type 0
IsRoll set ks = IsRollOf set (λ q. Unit {0}) ks

pub is_roll : (set : List Message) (m : BTreeMap RequestName Kept) → Gathers set m → IsRoll set (values m)
is_roll set m g =
    record { in_order = kept_in_order set m g; stands = kept_stands set m g; alone = λ q alone any. kept_alone set m g q alone }

-- the request lists the host, and asks for an end that is left
abbrev pub IsLeftAt : List ℕ → Option ℕ → RequestFields → Type 0
IsLeftAt host after q = Contains q.hosts host × (is_left after q.until ≡ true)

-- it asks for the moment or a later one
abbrev pub AsksPast : ℕ → RequestFields → Type 0
AsksPast at q = is_left (Some at) q.until ≡ true

pub roll_of_some : (set : List Message) (P : RequestFields → Type 0) (ks : List Kept) → IsRoll set ks → IsRollOf set P ks
roll_of_some set P ks roll =
    record { in_order = roll.in_order; stands = roll.stands; alone = λ q alone is. roll.alone q alone tt }

-- ---- one turn of a loop over them

pub turn_split : {X : Type 0} (seen rest next all : List X) (k : X) → seen ++ rest ≡ all → rest ≡ k ∷ next → (seen ++ k ∷ []) ++ next ≡ all
turn_split {X} seen rest next all k split steps =
    append_assoc seen (k ∷ []) next ∙ ap (λ (ks : List X). seen ++ ks) (sym steps) ∙ split

-- ---- what they give

pub all_both : {X : Type 0} (P : X → Type 0) (xs ys : List X) → AllByRecursion P xs → AllByRecursion P ys → AllByRecursion P (xs ++ ys)
all_both P [] ys a b = b
all_both P (x ∷ xs) ys a b = (a.0, all_both P xs ys a.1 b)

module _ {X : Type 0} (f : RosterFields Cmnd) (set : List Message) (give : RequestFields → Status → List X) where
  pub one_given : (ks : List Kept) (k : Kept) (xs ys : List X) → Give f set give ks xs → Adds f set give k xs ys → Give f set give (ks ++ k ∷ []) ys
  one_given [] k xs ys g a =
      ([], a.0, refl, a.1, a.2 ∙ ap (λ (l : List X). l ++ give k.request a.0) g ∙ sym (append-nil (give k.request a.0)))
  one_given (j ∷ ks) k xs ys g a = (
    g.0 ++ give k.request a.0,
    g.1,
    one_given ks k g.0 (g.0 ++ give k.request a.0) g.2 (a.0, a.1, refl),
    g.3,
    a.2 ∙ ap (λ (l : List X). l ++ give k.request a.0) g.4 ∙ append_assoc (give j.request g.1) g.0 (give k.request a.0),
  )

  -- or nothing, where a name has no summary
  pub some_given : (ks : List Kept) (o : Option Kept) (xs ys : List X) → Give f set give ks xs → AddsAt f set give o xs ys
      → Give f set give (ks ++ if_kept o) ys
  some_given ks None xs ys g a =
      subst (λ (js : List Kept). Give f set give js ys) (sym (append-nil ks)) (subst (Give f set give ks) (sym a) g)
  some_given ks (Some k) xs ys g a = one_given ks k xs ys g a

  pub record IsGivenBy (ks : List Kept) (x : X) : Type 0 where
    pub k : Kept
    pub among : Contains ks k
    pub status : Status
    pub status_is : IsStatus f set (name_of k.request) status
    pub given : Contains (give k.request status) x

  pub given_by : (ks : List Kept) (xs : List X) → Give f set give ks xs → (x : X) → Contains xs x → IsGivenBy ks x
  given_by [] xs g x m = absurd (no_member x (subst (λ (l : List X). Contains l x) g m))
  given_by (k ∷ ks) xs g x m =
      elim (Contains-append_cases (give k.request g.1) g.0 x (subst (λ (l : List X). Contains l x) g.4 m)) as (λ _. IsGivenBy (k ∷ ks) x) [
        | inl here ↦ record { k = k; among = Contains-head k ks; status = g.1; status_is = g.3; given = here }
        | inr later ↦
            let found = given_by ks g.0 g.2 x later in
            record { k = found.k; among = Contains-behind k ks found.k found.among; status = found.status; status_is = found.status_is; given = found.given }
      ]

  pub gives : (ks : List Kept) (xs : List X) → Give f set give ks xs → (k : Kept) → Contains ks k → (status : Status)
      → IsStatus f set (name_of k.request) status → (x : X) → Contains (give k.request status) x → Contains xs x
  gives [] xs g k m status is x h = absurd (no_member k m)
  gives (j ∷ ks) xs g k m status is x h =
      subst (λ (l : List X). Contains l x) (sym g.4) (elim (Contains-cases j ks k m) as (λ _. Contains (give j.request g.1 ++ g.0) x) [
        | inl same ↦
            let here : IsStatus f set (name_of j.request) status = subst (λ (y : Kept). IsStatus f set (name_of y.request) status) (sym same) is in
            let inside : Contains (give j.request status) x = subst (λ (y : Kept). Contains (give y.request status) x) (sym same) h in
            Contains-append_left (give j.request g.1) g.0 x
            (subst (λ (s : Status). Contains (give j.request s) x) (one_status f set (name_of j.request) status g.1 here g.3) inside)
        | inr later ↦ Contains-append_right (give j.request g.1) g.0 x (gives ks g.0 g.2 k later status is x h)
      ])

  -- in the order of their names, and then of what each gives
  module _ (P : X → X → Type 0) (name : X → RequestName) (own : (q : RequestFields) (status : Status) (x : X) → Contains (give q status) x → name x ≡ name_of q)
      (each : (q : RequestFields) (status : Status) → AreInOrder P (give q status)) (before : (x y : X) → NamePrecedes (name x) (name y) → P x y) where
    pub given_in_order : (ks : List Kept) (xs : List X) → AreInOrder SummaryPrecedes ks → Give f set give ks xs → AreInOrder P xs
    given_in_order [] xs o g = subst (AreInOrder P) (sym g) tt
    given_in_order (k ∷ ks) xs o g =
        subst (AreInOrder P) (sym g.4) (ordered_both P (give k.request g.1) g.0 (each k.request g.1) (given_in_order ks g.0 o.1 g.2) (λ x y mx my.
        let found = given_by ks g.0 g.2 y my in
        let names : NamePrecedes (name_of k.request) (name_of found.k.request) = behind_each SummaryPrecedes k ks o.0 found.k found.among in
        before x y (subst (λ (n : RequestName). NamePrecedes n (name y)) (sym (own k.request g.1 x mx))
        (subst (NamePrecedes (name_of k.request)) (sym (own found.k.request found.status y found.given)) names))))
