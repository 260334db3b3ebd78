-- What a test leaves of a list: its elements, their order, and what it leaves of lists that are put together or mapped.
use Rattle.std.proofs.Common.{◌≡◌, Bool, true, false, cond, List, [], ◌∷◌, ◌++◌, map, refl, sym, ap, ◌∙◌, subst, inl, inr}
use Rattle.std.specs.List.{Contains, filter}
use Rattle.std.proofs.lemmas.List.Elements.{All-contains, All-contains_itself, All-filter, filter-append, filter_passes}
use Rattle.messages.specs.Fields.{RequestFields}
use Rattle.messages.specs.declared.message.Message.{Message}
use Rattle.sudo_words.specs.declared.cmnd.Cmnd.{Cmnd}
use Rattle.roster.specs.Fields.{RosterFields}
use Rattle.grants.specs.Summaries.{Kept}
use Rattle.grants.specs.declared.outcome.Status.{Status}
use Rattle.outcomes.specs.private.InTurn.{Give}
use Rattle.messages.specs.Order.{AllAfter, AreInOrder}
use Rattle.outcomes.proofs.Membership.{no_member, Contains-head, Contains-behind, Contains-cases}
use Rattle.outcomes.proofs.Orders.{behind_each, behind_from_each}

-- ---- its elements

kept_head : {X : Type 0} (b : Bool) (x : X) (more : List X) → b ≡ true → Contains (cond b (x ∷ more) more) x
kept_head true x more e = Contains-head x more
kept_head false x more e = absurd cc

kept_behind : {X : Type 0} (b : Bool) (y : X) (more : List X) (x : X) → Contains more x → Contains (cond b (y ∷ more) more) x
kept_behind true y more x m = Contains-behind y more x m
kept_behind false y more x m = m

module _ {X : Type 0} (p : X → Bool) where
  pub kept : (xs : List X) (x : X) → Contains xs x → p x ≡ true → Contains (filter p xs) x
  kept [] x m e = absurd (no_member x m)
  kept (y ∷ xs) x m e =
      elim (Contains-cases y xs x m) as (λ _. Contains (filter p (y ∷ xs)) x) [
        | inl same ↦ subst (λ (z : X). Contains (filter p (y ∷ xs)) z) same (kept_head (p y) y (filter p xs) (ap p same ∙ e))
        | inr later ↦ kept_behind (p y) y (filter p xs) x (kept xs x later e)
      ]

  pub was_there : (xs : List X) (x : X) → Contains (filter p xs) x → Contains xs x
  was_there xs x m = All-contains (Contains xs) (filter p xs) x (All-filter p (Contains xs) xs (All-contains_itself xs)) m

  pub passes : (xs : List X) (x : X) → Contains (filter p xs) x → p x ≡ true
  passes xs x m = All-contains (λ (y : X). p y ≡ true) (filter p xs) x (filter_passes p xs) m

-- ---- their order

cond_ordered : {X : Type 0} (P : X → X → Type 0) (b : Bool) (x : X) (more : List X)
    → AllAfter P x more → AreInOrder P more → AreInOrder P (cond b (x ∷ more) more)
cond_ordered P true x more all o = (all, o)
cond_ordered P false x more all o = o

pub left_in_order : {X : Type 0} (p : X → Bool) (P : X → X → Type 0) (xs : List X) → AreInOrder P xs → AreInOrder P (filter p xs)
left_in_order p P [] o = tt
left_in_order p P (x ∷ xs) o =
    cond_ordered P (p x) x (filter p xs) (behind_from_each P x (filter p xs) (λ y m. behind_each P x xs o.0 y (was_there p xs y m))) (left_in_order p P xs o.1)

-- ---- other lists

pub all_left : {X : Type 0} (xs : List X) → filter (λ (x : X). true) xs ≡ xs
all_left [] = refl
all_left {X} (x ∷ xs) = ap (λ (more : List X). x ∷ more) (all_left xs)

map_cond : {X Y : Type 0} (h : X → Y) (b : Bool) (x : X) (more : List X) → cond b (h x ∷ map h more) (map h more) ≡ map h (cond b (x ∷ more) more)
map_cond h true x more = refl
map_cond h false x more = refl

pub left_of_map : {X Y : Type 0} (p : Y → Bool) (h : X → Y) (xs : List X) → filter p (map h xs) ≡ map h (filter (λ (x : X). p (h x)) xs)
left_of_map p h [] = refl
left_of_map {X} {Y} p h (x ∷ xs) =
    ap (λ (more : List Y). cond (p (h x)) (h x ∷ more) more) (left_of_map p h xs) ∙ map_cond h (p (h x)) x (filter (λ (z : X). p (h z)) xs)

-- ---- what is left of what summaries give in turn

pub left_of_given : {X : Type 0} (f : RosterFields Cmnd) (set : List Message) (give : RequestFields → Status → List X) (p : X → Bool) (ks : List Kept)
    (xs : List X) → Give f set (λ q status. filter p (give q status)) ks xs → (all : List X) × Give f set give ks all × (xs ≡ filter p all)
left_of_given f set give p [] xs g = ([], refl, g)
left_of_given {X} f set give p (k ∷ ks) xs g =
    let more = left_of_given f set give p ks g.0 g.2 in (
      give k.request g.1 ++ more.0,
      (more.0, g.1, more.1, g.3, refl),
      g.4 ∙ ap (λ (l : List X). filter p (give k.request g.1) ++ l) more.2 ∙ sym (filter-append p (give k.request g.1) more.0),
    )
