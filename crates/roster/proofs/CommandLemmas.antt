-- Commands in order: where a binary search ends, and which command has which place.
use Rattle.std.proofs.Common.{◌≡◌, ◌<◌, ◌≤◌, ◌+◌, ℕ, ◌∙◌, Bool, true, false, ◌&&◌, List, length, get_or}
use Rattle.std.proofs.Common.{Ordering, Less, Equal, Greater, refl, sym, ap, subst, arith, ⊎_elim}
use Rattle.std.specs.Cmp.{IsTotalOrder, nat_cmp_total, on_total, then_total}
use Rattle.std.specs.Cmp.Lexicographic.{lists_ties, lists_total, nat_list_cmp_total, texts_ties}
use Rattle.std.specs.List.{list_any}
use Rattle.std.specs.List.Sorted.{IsNonDecreasingBy}
use Rattle.std.specs.Ordering.{is_eq, ordering_index, ordering_then}
use Rattle.std.specs.Str.{bytes_eq}
use Rattle.std.proofs.lemmas.Bool.{cases_lt}
use Rattle.std.proofs.lemmas.List.Folds.{list_any_at}
use Rattle.std.proofs.lemmas.List.Sorted.{list_any-IsPermutation, searchable_from_sorted}
use Rattle.std.proofs.lemmas.List.Sorted.{ranks_by}
use Rattle.std.proofs.lemmas.Fn.{always_returns_same}
use Rattle.std.specs.Cmp.{IsStrictWeakOrder}
use Rattle.std.specs.Fn.{Called, ComparesAs}
use Rattle.std.specs.List.Sorted.{IsSortedBy}
use Rattle.std.specs.Ordering.{is_lt}
use denote.Ref.{Bor}
use denote.Param.Members.{Mut}
use Rattle.sudo_words.specs.declared.cmnd.Cmnd.{Cmnd}
use Rattle.sudo_words.specs.declared.cmnd.Cmnd.TheVariants.{All, Path, Dir}
use Rattle.sudo_words.specs.declared.cmnd.ArgRule.{ArgRule}
use Rattle.sudo_words.specs.declared.cmnd.ArgRule.TheVariants.{Any, Empty, Exactly}
use Rattle.roster.specs.Commands.{is_dir, is_file}
use Rattle.roster.specs.private.LookupOrders.{args_order, AreCmndsInOrder, cmnd_order, is_at, place, Place, place_order, rank}
use Rattle.sudo_words.specs.Lists.{text_order}
use Rattle.roster.specs.private.LookupOrders.{IsInOrder}
use Rattle.roster.proofs.DutyLemmas.{any_same}
use Rattle.roster.proofs.Listed.{absent}
use Rattle.roster.proofs.PairLemmas.{greater, less}
use Rattle.roster.proofs.Rising.{same_place}

pub place_total : IsTotalOrder place_order
place_total =
    then_total (on_total (λ (p : Place). rank p.kind) nat_cmp_total)
    (then_total (on_total (λ (p : Place). p.path) nat_list_cmp_total) (on_total (λ (p : Place). p.args) (lists_total nat_list_cmp_total)))

-- compared with a place they are first less, then equal, then greater
climbs : (cs : List Cmnd) → AreCmndsInOrder cs → (p : Place) → IsNonDecreasingBy (λ c. ordering_index (place_order (place c) p)) cs
climbs cs rising p = searchable_from_sorted place_total place cs p rising

-- each command between two indexes compares like this with the place
abbrev pub Rank : List Cmnd → Place → Ordering → (from to : ℕ) → Type 0
Rank cs p r from to = (k : ℕ) (d : Cmnd) → from ≤ k → k < to → k < length cs → place_order (place (get_or cs k d)) p ≡ r

pub all_less : (cs : List Cmnd) → AreCmndsInOrder cs → (p : Place) (m : ℕ) (c : Cmnd)
    → m < length cs → c ≡ get_or cs m c → place_order (place c) p ≡ Less → Rank cs p Less 0 (m + 1)
all_less cs rising p m c l is lt k d from to within =
    let here : place_order (place (get_or cs m d)) p ≡ Less = ap (λ x. place_order (place x) p) (same_place cs m d c l ∙ sym is) ∙ lt in
    less (place_order (place (get_or cs k d)) p)
    (subst (λ r. ordering_index (place_order (place (get_or cs k d)) p) ≤ ordering_index r) here (climbs cs rising p k m d (omega arith) l))

pub all_greater : (cs : List Cmnd) → AreCmndsInOrder cs → (p : Place) (m : ℕ) (c : Cmnd) → m < length cs
    → c ≡ get_or cs m c → place_order (place c) p ≡ Greater → Rank cs p Greater m (length cs)
all_greater cs rising p m c l is gt k d from to within =
    let here : place_order (place (get_or cs m d)) p ≡ Greater = ap (λ x. place_order (place x) p) (same_place cs m d c l ∙ sym is) ∙ gt in
    greater (place_order (place (get_or cs k d)) p)
    (subst (λ r. ordering_index r ≤ ordering_index (place_order (place (get_or cs k d)) p)) here (climbs cs rising p m k d from within))

pub one_there : (cs : List Cmnd) (p : Place) (m : ℕ) (c : Cmnd) → m < length cs
    → c ≡ get_or cs m c → place_order (place c) p ≡ Equal → list_any (is_at p) cs ≡ true
one_there cs p m c l is eq = list_any_at (is_at p) cs m c l (ap (is_at p) (sym is) ∙ ap is_eq eq)

pub none_there : (cs : List Cmnd) (p : Place) (m : ℕ) → Rank cs p Less 0 m → Rank cs p Greater m (length cs) → list_any (is_at p) cs ≡ false
none_there cs p m below above = absent (is_at p) cs (λ k d l. ⊎_elim
    (λ b. ap is_eq (below k d (omega arith) b l))
    (λ a. ap is_eq (above k d a l l))
    (cases_lt k m))

-- a sort that compares their places leaves them in order
pub sorted_by_place : {F : Type 0} {g : Mut F (Bor Cmnd × (Bor Cmnd × Unit {0})) Ordering} {f : F} (cs : List Cmnd)
    → ((lt : Cmnd → Cmnd → Bool) → IsStrictWeakOrder lt → ComparesAs g lt f → IsSortedBy lt cs)
    → ((a : Bor Cmnd × (Bor Cmnd × Unit {0})) (r : Ordering) (f' : F) → Called g f a r f' → (r ≡ cmnd_order a.0.now a.1.0.now) × (f' ≡ f)) → AreCmndsInOrder cs
sorted_by_place {g = g} {f = f} cs up h = up (λ c d. is_lt (cmnd_order c d)) (ranks_by place_total place)
    (always_returns_same g (λ a r. is_lt r ≡ is_lt (cmnd_order a.0.now a.1.0.now)) f (λ a r f' k. (ap is_lt (h a r f' k).0, (h a r f' k).1)))

-- ---- which command has which place

then_equal : (r : Ordering) → is_eq (ordering_then r Equal) ≡ is_eq r
then_equal Less = refl
then_equal Equal = refl
then_equal Greater = refl

then_tied : (a b : Ordering) → is_eq (ordering_then a b) ≡ (is_eq a && is_eq b)
then_tied Less b = refl
then_tied Equal b = refl
then_tied Greater b = refl

and_true : (b : Bool) → b ≡ (b && true)
and_true true = refl
and_true false = refl

and_false : (b : Bool) → false ≡ (b && false)
and_false true = refl
and_false false = refl

pub at_dir : (dir : List ℕ) (c : Cmnd) → is_at (place (Dir dir)) c ≡ is_dir dir c
at_dir dir (Dir d) = then_equal (text_order d dir) ∙ sym (texts_ties d dir)
at_dir dir (Path f Any) = refl
at_dir dir _ = refl

-- the same kind of rule without arguments
alone : (f file : List ℕ) → is_eq (ordering_then (text_order f file) Equal) ≡ (bytes_eq f file && true)
alone f file = then_equal (text_order f file) ∙ sym (texts_ties f file) ∙ and_true (bytes_eq f file)

pub at_file : (file : List ℕ) (rule : ArgRule) (c : Cmnd) → is_at (place (Path file rule)) c ≡ is_file file rule c
at_file file Any All = refl
at_file file Empty All = refl
at_file file (Exactly wanted) All = refl
at_file file Any (Dir d) = refl
at_file file Empty (Dir d) = refl
at_file file (Exactly wanted) (Dir d) = refl
at_file file Any (Path f Any) = alone f file
at_file file Any (Path f Empty) = and_false (bytes_eq f file)
at_file file Any (Path f (Exactly args)) = and_false (bytes_eq f file)
at_file file Empty (Path f Any) = and_false (bytes_eq f file)
at_file file Empty (Path f Empty) = alone f file
at_file file Empty (Path f (Exactly args)) = and_false (bytes_eq f file)
at_file file (Exactly wanted) (Path f Any) = and_false (bytes_eq f file)
at_file file (Exactly wanted) (Path f Empty) = and_false (bytes_eq f file)
at_file file (Exactly wanted) (Path f (Exactly args)) =
    then_tied (text_order f file) (args_order args wanted)
    ∙ ap (λ b. b && is_eq (args_order args wanted)) (sym (texts_ties f file))
    ∙ ap (λ b. bytes_eq f file && b) (sym (lists_ties text_order texts_ties args wanted))

-- a sorted command has a place exactly if one of the commands that were read passes the same test
pub found_in_order : (cmnds ordered : List Cmnd) → IsInOrder cmnd_order cmnds ordered → (p : Place) (test : Cmnd → Bool) → ((c : Cmnd) → is_at p c ≡ test c)
    → list_any (is_at p) ordered ≡ list_any test cmnds
found_in_order cmnds ordered o p test alike = sym (list_any-IsPermutation (is_at p) cmnds ordered o.same) ∙ any_same (is_at p) test alike cmnds
