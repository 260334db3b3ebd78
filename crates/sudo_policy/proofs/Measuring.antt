-- The measures of lists: item by item, and by what a table has of each alias.
use Rattle.std.proofs.Common.{◌≡◌, ℕ, ◌+◌, ◌<◌, max, Bool, true, List, [], ◌∷◌, ◌++◌, length}
use Rattle.std.proofs.Common.{get_or, take, Option, Some, None, refl, sym, ap, subst, ◌∙◌, arith}
use Rattle.std.specs.Prelude.{IfSome}
use Rattle.std.specs.List.{AllByRecursion}
use Rattle.std.proofs.lemmas.List.{take_more}
use Rattle.std.proofs.lemmas.List.Sums.{sum_by_push, sum_by-cons}
use Rattle.sudo_policy.specs.declared.entry.Signed.{Signed}
use Rattle.sudo_policy.specs.declared.aliases.Measure.{Measure}
use Rattle.sudo_policy.specs.declared.aliases.Aliases.{Aliases}
use Rattle.sudo_policy.specs.Alias.{list_weight, item_weight, list_depth, item_depth}
use Rattle.sudo_policy.specs.private.Measures.{stopped, weight_in, depth_in, has, KnowsAll, IsItemKnown, IsItemMeasured, IsMeasured}

pub each_push : {X : Type 0} (P : X → Type 0) (xs : List X) (x : X) → AllByRecursion P xs → P x → AllByRecursion P (xs ++ x ∷ [])
each_push P [] x all here = (here, tt)
each_push P (y ∷ ys) x all here = (all.0, each_push P ys x all.1 here)

-- ---- weights that stop

pub stopped_sum : (a b : ℕ) → stopped (stopped a + b) ≡ stopped (a + b)
stopped_sum a b = omega arith

-- ---- one more item

depth_push : {X : Type 0} (alias_of : X → Option (List ℕ)) (deep : List ℕ → ℕ) (xs : List (Signed X)) (x : Signed X)
    → list_depth alias_of deep (xs ++ x ∷ []) ≡ max (list_depth alias_of deep xs) (item_depth deep (alias_of x.item))
depth_push alias_of deep [] x = omega arith
depth_push alias_of deep (y ∷ ys) x = omega (arith, depth_push alias_of deep ys x)

pub measured_push : {X : Type 0} (alias_of : X → Option (List ℕ)) (m : Aliases) (xs : List (Signed X)) (x : Signed X) (a here b : Measure)
    → IsMeasured alias_of m xs a → IsItemMeasured m (alias_of x.item) here → b.weight ≡ stopped (a.weight + here.weight) → b.depth ≡ max a.depth here.depth
    → IsMeasured alias_of m (xs ++ x ∷ []) b
measured_push {X} alias_of m xs x a here b of_xs of_x weight depth =
    let heavy = λ (s : Signed X). item_weight (weight_in m) (alias_of s.item) in
    let P : Signed X → Type 0 = λ s. IfSome (alias_of s.item) (λ name. has m name ≡ true) in
    let sum : list_weight alias_of (weight_in m) (xs ++ x ∷ []) ≡ list_weight alias_of (weight_in m) xs + item_weight (weight_in m) (alias_of x.item) =
    sum_by_push heavy xs x in
    record {
      knows = each_push P xs x of_xs.knows of_x.knows;
      weight =
          weight ∙ ap (λ (w : ℕ). stopped (w + here.weight)) of_xs.weight ∙ stopped_sum (list_weight alias_of (weight_in m) xs) here.weight
          ∙ ap (λ (w : ℕ). stopped (list_weight alias_of (weight_in m) xs + w)) of_x.weight ∙ ap stopped (sym sum);
      depth =
          depth ∙ ap (λ (d : ℕ). max d here.depth) of_xs.depth ∙ ap (λ (d : ℕ). max (list_depth alias_of (depth_in m) xs) d) of_x.depth
          ∙ sym (depth_push alias_of (depth_in m) xs x);
    }

-- the item at a place, after those before it
pub measured_more : {X : Type 0} (alias_of : X → Option (List ℕ)) (m : Aliases) (xs : List (Signed X)) (i : ℕ) (x : Signed X) (a here b : Measure)
    → i < length xs → x ≡ get_or xs i x → IsMeasured alias_of m (take i xs) a → IsItemMeasured m (alias_of x.item) here
    → b.weight ≡ stopped (a.weight + here.weight) → b.depth ≡ max a.depth here.depth → IsMeasured alias_of m (take (i + 1) xs) b
measured_more {X} alias_of m xs i x a here b below at of_xs of_x weight depth =
    let more : take (i + 1) xs ≡ take i xs ++ x ∷ [] = take_more xs i x below ∙ ap (λ (s : Signed X). take i xs ++ s ∷ []) (sym at) in
    let P : List (Signed X) → Type 0 = λ ys. IsMeasured alias_of m ys b in
    subst P (sym more) (measured_push alias_of m (take i xs) x a here b of_xs of_x weight depth)

-- ---- lists by two tests, or by two measures, that agree

item_known : (p q : List ℕ → Bool) (o : Option (List ℕ)) → ((n : List ℕ) → p n ≡ q n) → IsItemKnown p o → IsItemKnown q o
item_known p q None same h = tt
item_known p q (Some n) same h = sym (same n) ∙ h

pub known_same : {X : Type 0} (alias_of : X → Option (List ℕ)) (p q : List ℕ → Bool) (list : List (Signed X)) → ((n : List ℕ) → p n ≡ q n)
    → KnowsAll alias_of p list → KnowsAll alias_of q list
known_same alias_of p q [] same h = tt
known_same alias_of p q (s ∷ list) same h = (item_known p q (alias_of s.item) same h.0, known_same alias_of p q list same h.1)

stopped_plus : (a b c d : ℕ) → stopped a ≡ stopped b → stopped c ≡ stopped d → stopped (a + c) ≡ stopped (b + d)
stopped_plus a b c d e f = omega arith

item_stopped : (kept weigh : List ℕ → ℕ) (o : Option (List ℕ)) → ((n : List ℕ) → kept n ≡ stopped (weigh n))
    → stopped (item_weight kept o) ≡ stopped (item_weight weigh o)
item_stopped kept weigh None same = refl
item_stopped kept weigh (Some n) same = let one = same n in omega arith

-- the weight of a list stops at the same number whether it is summed from weights that stop or from the weights themselves
pub list_stopped : {X : Type 0} (alias_of : X → Option (List ℕ)) (kept weigh : List ℕ → ℕ) (list : List (Signed X))
    → ((n : List ℕ) → kept n ≡ stopped (weigh n)) → stopped (list_weight alias_of kept list) ≡ stopped (list_weight alias_of weigh list)
list_stopped alias_of kept weigh [] same = refl
list_stopped {X} alias_of kept weigh (s ∷ list) same =
    let of_kept : list_weight alias_of kept (s ∷ list) ≡ item_weight kept (alias_of s.item) + list_weight alias_of kept list =
    sum_by-cons (λ (x : Signed X). item_weight kept (alias_of x.item)) s list in
    let of_all : list_weight alias_of weigh (s ∷ list) ≡ item_weight weigh (alias_of s.item) + list_weight alias_of weigh list =
    sum_by-cons (λ (x : Signed X). item_weight weigh (alias_of x.item)) s list in
    ap stopped of_kept
    ∙ stopped_plus (item_weight kept (alias_of s.item)) (item_weight weigh (alias_of s.item)) (list_weight alias_of kept list) (list_weight alias_of weigh list)
    (item_stopped kept weigh (alias_of s.item) same) (list_stopped alias_of kept weigh list same)
    ∙ ap stopped (sym of_all)

item_deep : (kept deep : List ℕ → ℕ) (o : Option (List ℕ)) → ((n : List ℕ) → kept n ≡ deep n) → item_depth kept o ≡ item_depth deep o
item_deep kept deep None same = refl
item_deep kept deep (Some n) same = same n

pub list_deep : {X : Type 0} (alias_of : X → Option (List ℕ)) (kept deep : List ℕ → ℕ) (list : List (Signed X)) → ((n : List ℕ) → kept n ≡ deep n)
    → list_depth alias_of kept list ≡ list_depth alias_of deep list
list_deep alias_of kept deep [] same = refl
list_deep alias_of kept deep (s ∷ list) same =
    ap (λ (d : ℕ). max d (list_depth alias_of kept list)) (item_deep kept deep (alias_of s.item) same)
    ∙ ap (λ (d : ℕ). max (item_depth deep (alias_of s.item)) d) (list_deep alias_of kept deep list same)
