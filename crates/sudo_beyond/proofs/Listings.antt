-- The lists of arguments that stand with a path lie side by side among all of them, which are in order by their paths.
use Rattle.std.proofs.Common.{◌≡◌, ℕ, zero, suc, ◌+◌, ◌<◌, ◌≤◌, Bool, true, false, ◌&&◌, if◌then◌else◌, List, [], ◌∷◌}
use Rattle.std.proofs.Common.{◌++◌, length, map, take, drop, get_or, eqb, refl, sym, ap, ◌∙◌, subst, inl, inr, arith}
use Rattle.std.specs.List.{Contains, flat_map}
use Rattle.std.specs.List.Sorted.{IsStrictlySortedBy, IsNonDecreasingBy, IsPartitionedBy, IsPartitionPoint}
use Rattle.std.specs.declared.cmp.Ordering.{Ordering}
use Rattle.std.specs.declared.cmp.Ordering.TheVariants.{Less, Equal, Greater}
use Rattle.std.specs.Ordering.{is_lt, is_eq, ordering_index, ordering_then, ordering_reverse}
use Rattle.std.specs.Cmp.Lexicographic.{pointwise, nat_list_cmp_total, nat_list_eq_equiv, texts_ties}
use Rattle.std.specs.Str.{bytes_eq}
use Rattle.std.proofs.Math.Path.{fun_ext}
use Rattle.std.proofs.lemmas.Bool.{cases_Bool, false≢true, and_parts, ltb-false, eqb-true, eq-eqb}
use Rattle.std.proofs.lemmas.List.{append-nil, take-append-drop, length-take-le, length-drop, get_or-take, get_or-drop}
use Rattle.std.proofs.lemmas.List.Concat.{flat_map-append}
use Rattle.std.proofs.lemmas.List.Elements.{Contains-append_left, Contains-append_right, Contains-append_cases}
use Rattle.std.proofs.lemmas.List.Sorted.{IsPartitionedBy-ltb, IsNonDecreasingBy-drop}
use Rattle.std.proofs.lemmas.Slice.Eq.{bytes_eq-Decides}
use Rattle.sudo_words.specs.declared.cmnd.Cmnd.{Cmnd}
use Rattle.sudo_words.specs.declared.cmnd.Cmnd.TheVariants.{All, Path, Dir}
use Rattle.sudo_words.specs.declared.cmnd.ArgRule.TheVariants.{Any, Empty, Exactly}
use Rattle.sudo_beyond.specs.declared.run.Run.{Run}
use Rattle.sudo_words.specs.Lists.{text_order, args_order, IsEachOnce}
use Rattle.sudo_beyond.specs.Cases.{args_in, args_with}
use Rattle.sudo_beyond.specs.private.Gathering.{run_order, listing_in, listings, args_if, args_at, AreListings}
use Rattle.sudo_beyond.proofs.CmndCases.{args_decides}
use Rattle.sudo_words.proofs.Halving.{index_lt, index_eq, answers_rise}

-- ---- those of one path, among the listings and among the commands

of_one : (path : List ℕ) (c : Cmnd) → args_at path (listing_in c) ≡ args_in path c
of_one path All = refl
of_one path (Path file Any) = elim (cases_Bool (bytes_eq path file)) [ inl is ↦ rw is refl | inr isn't ↦ rw isn't refl ]
of_one path (Path file Empty) = elim (cases_Bool (bytes_eq path file)) [ inl is ↦ rw is refl | inr isn't ↦ rw isn't refl ]
of_one path (Path file (Exactly args)) =
    ap (λ (own : Bool). (if own then args ∷ [] else []) ++ []) (nat_list_eq_equiv.symm file path) ∙ append-nil (args_in path (Path file (Exactly args)))
of_one path (Dir dir) = refl

of_all : (path : List ℕ) (cmnds : List Cmnd) → args_at path (listings cmnds) ≡ args_with path cmnds
of_all path [] = refl
of_all path (c ∷ cmnds) =
    flat_map-append (args_if path) (listing_in c) (listings cmnds)
    ∙ ap (λ (lists : List (List (List ℕ))). lists ++ args_at path (listings cmnds)) (of_one path c)
    ∙ ap (λ (lists : List (List (List ℕ))). args_in path c ++ lists) (of_all path cmnds)

-- ---- what is contained in joined lists

module _ {X Y : Type 0} (f : X → List Y) where
  flat_from : (xs : List X) (y : Y) → Contains (flat_map f xs) y → (x : X) × Contains xs x × Contains (f x) y
  flat_from [] y there = absurd (omega (arith, there.1))
  flat_from (x ∷ xs) y there =
      elim (Contains-append_cases (f x) (flat_map f xs) y there) [
        | inl here ↦ (x, (zero, omega arith, refl), here)
        | inr later ↦ let found = flat_from xs y later in (found.0, Contains-append_right (x ∷ []) xs found.0 found.1, found.2)
      ]

  flat_to : (xs : List X) (x : X) (y : Y) → (k : ℕ) → k < length xs → get_or xs k x ≡ x → Contains (f x) y → Contains (flat_map f xs) y
  flat_to [] x y k below at here = absurd (omega arith)
  flat_to (z ∷ xs) x y zero below at here = Contains-append_left (f z) (flat_map f xs) y (subst (λ (w : X). Contains (f w) y) (sym at) here)
  flat_to (z ∷ xs) x y (suc k) below at here = Contains-append_right (f z) (flat_map f xs) y (flat_to xs x y k (omega arith) at here)

  flat_other : (xs ys : List X) → ((x : X) → Contains xs x → Contains ys x) → (y : Y) → Contains (flat_map f xs) y → Contains (flat_map f ys) y
  flat_other xs ys same y there =
      let found = flat_from xs y there in
      let at = same found.0 found.1 in
      flat_to ys found.0 y at.0 at.1 at.2 found.2

-- what is listed with a path, each list once, is what stands with it
pub listed_once : (cmnds : List Cmnd) (listed : List Run) (path : List ℕ) (lists : List (List (List ℕ))) → AreListings cmnds listed
    → IsEachOnce args_order (args_at path listed) lists → IsEachOnce args_order (args_with path cmnds) lists
listed_once cmnds listed path lists table once = record {
  in_order = once.in_order;
  each = λ args stands. once.each args (flat_other (args_if path) (listings cmnds) listed table.each args
      (subst (λ (all : List (List (List ℕ))). Contains all args) (sym (of_all path cmnds)) stands));
  only = λ args found.
      subst (λ (all : List (List (List ℕ))). Contains all args) (of_all path cmnds)
      (flat_other (args_if path) listed (listings cmnds) table.only args (once.only args found));
}

-- a test of two runs holds only of equal ones
pub runs_exact : (x y : Run) → (bytes_eq x.path y.path && pointwise bytes_eq x.args y.args) ≡ true → x ≡ y
runs_exact x y same =
    let both = and_parts (bytes_eq x.path y.path) (pointwise bytes_eq x.args y.args) same in
    let paths = (bytes_eq-Decides x.path y.path).0 both.0 in
    let args = (args_decides y.args x.args).0 both.1 in
    λ i. record { path = paths i; args = sym args i }

-- ---- side by side

paths_rise : (x y : Run) → run_order x y ≡ Less → is_lt (text_order y.path x.path) ≡ false
paths_rise x y below = back (text_order x.path y.path) (text_order y.path x.path) (args_order x.args y.args) (nat_list_cmp_total.antisymm y.path x.path) below
  where
    back : (there here rest : Ordering) → here ≡ ordering_reverse there → ordering_then there rest ≡ Less → is_lt here ≡ false
    back Less here rest is first = ap is_lt is
    back Equal here rest is first = ap is_lt is
    back Greater here rest is first = absurd (false≢true (ap is_lt first))

no_args : (path : List ℕ) (runs : List Run) → ((k : ℕ) (d : Run) → k < length runs → bytes_eq (get_or runs k d).path path ≡ false) → args_at path runs ≡ []
no_args path [] none = refl
no_args path (run ∷ runs) none = rw (none zero run (omega arith)) (no_args path runs (λ k d below. none (suc k) d (omega arith)))

all_args : (path : List ℕ) (runs : List Run) → ((k : ℕ) (d : Run) → k < length runs → bytes_eq (get_or runs k d).path path ≡ true)
    → map (λ run. run.args) runs ≡ args_at path runs
all_args path [] all = refl
all_args path (run ∷ runs) all =
    rw (all zero run (omega arith)) (ap (λ (lists : List (List (List ℕ))). run.args ∷ lists) (all_args path runs (λ k d below. all (suc k) d (omega arith))))

below_not_same : (o : Ordering) → is_lt o ≡ true → is_eq o ≡ false
below_not_same Less below = refl
below_not_same Equal below = absurd (false≢true below)
below_not_same Greater below = refl

abbrev pub is_before : List ℕ → Run → Bool
is_before path run = is_lt (text_order run.path path)

abbrev pub is_own : List ℕ → Run → Bool
is_own path run = bytes_eq run.path path

abbrev rank : List ℕ → Run → ℕ
rank path run = ordering_index (text_order run.path path)

module _ (path : List ℕ) (listed : List Run) (sorted : IsStrictlySortedBy run_order listed) where
  rises : IsNonDecreasingBy (rank path) listed
  rises = answers_rise nat_list_cmp_total (λ run. run.path) run_order paths_rise listed sorted path

  pub before_first : IsPartitionedBy (is_before path) listed
  before_first =
      subst (λ (test : Run → Bool). IsPartitionedBy test listed) (fun_ext (λ (run : Run). sym (index_lt (text_order run.path path))))
      (IsPartitionedBy-ltb (rank path) listed 1 rises)

  own_rank : (run : Run) → is_own path run ≡ eqb (rank path run) 1
  own_rank run = texts_ties run.path path ∙ index_eq (text_order run.path path)

  module _ (i : ℕ) (inside : i ≤ length listed) (point : IsPartitionPoint (λ run. is_before path run ≡ true) (λ run. is_before path run ≡ false) listed i) where
    abbrev rest : List Run
    rest = drop i listed

    rest_ranks : (k : ℕ) (d : Run) → k < length rest → 1 ≤ rank path (get_or rest k d)
    rest_ranks k d below =
        let short = length-drop i listed in
        let not_less : is_before path (get_or listed (i + k) d) ≡ false = point.1 (i + k) d (omega arith) (omega arith) in
        subst (λ (run : Run). 1 ≤ rank path run) (sym (get_or-drop i listed k d))
        (ltb-false (rank path (get_or listed (i + k) d)) 1 (sym (index_lt (text_order (get_or listed (i + k) d).path path)) ∙ not_less))

    pub own_first : IsPartitionedBy (is_own path) rest
    own_first a b d low below own =
        let most = IsNonDecreasingBy-drop (rank path) i listed rises a b d low below in
        let least = rest_ranks a d (omega arith) in
        let same = eqb-true (rank path (get_or rest b d)) 1 (sym (own_rank (get_or rest b d)) ∙ own) in
        own_rank (get_or rest a d) ∙ eq-eqb (rank path (get_or rest a d)) 1 (omega arith)

    front_not_own : (k : ℕ) (d : Run) → k < length (take i listed) → is_own path (get_or (take i listed) k d) ≡ false
    front_not_own k d below =
        let short = length-take-le i listed inside in
        subst (λ (run : Run). is_own path run ≡ false) (sym (get_or-take i listed k d (omega arith)))
        (texts_ties (get_or listed k d).path path ∙ below_not_same (text_order (get_or listed k d).path path) (point.0 k d (omega arith) (omega arith)))

    module _ (j : ℕ) (within : j ≤ length rest) (own : IsPartitionPoint (λ run. is_own path run ≡ true) (λ run. is_own path run ≡ false) rest j) where
      these_own : (k : ℕ) (d : Run) → k < length (take j rest) → is_own path (get_or (take j rest) k d) ≡ true
      these_own k d below =
          let short = length-take-le j rest within in
          subst (λ (run : Run). is_own path run ≡ true) (sym (get_or-take j rest k d (omega arith))) (own.0 k d (omega arith) (omega arith))

      others_not : (k : ℕ) (d : Run) → k < length (drop j rest) → is_own path (get_or (drop j rest) k d) ≡ false
      others_not k d below =
          let short = length-drop j rest in
          subst (λ (run : Run). is_own path run ≡ false) (sym (get_or-drop j rest k d)) (own.1 (j + k) d (omega arith) (omega arith))

      pub side_by_side : map (λ run. run.args) (take j rest) ≡ args_at path listed
      side_by_side =
          all_args path (take j rest) these_own
          ∙ sym (append-nil (args_at path (take j rest)))
          ∙ ap (λ (lists : List (List (List ℕ))). args_at path (take j rest) ++ lists) (sym (no_args path (drop j rest) others_not))
          ∙ sym (flat_map-append (args_if path) (take j rest) (drop j rest))
          ∙ ap (args_at path) (take-append-drop j rest)
          ∙ ap (λ (lists : List (List (List ℕ))). lists ++ args_at path rest) (sym (no_args path (take i listed) front_not_own))
          ∙ sym (flat_map-append (args_if path) (take i listed) rest)
          ∙ ap (args_at path) (take-append-drop i listed)
