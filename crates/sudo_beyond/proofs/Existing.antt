-- Any two policies have cases in a scope that fixes the names, and at most as many as what stands in both makes.
use Rattle.std.proofs.Common.{◌≡◌, ℕ, ◌+◌, ◌*◌, ◌^◌, ◌<◌, ◌≤◌, true, Option, Some, None, List, [], ◌∷◌, ◌++◌, length, map, refl}
use Rattle.std.proofs.Common.{sym, ap, ◌∙◌, subst, inl, inr, arith, length-append, add-mul, suc-mul, one-mul, le_trans, le_refl}
use Rattle.std.specs.Prelude.{codes}
use Rattle.std.specs.Option.{is_some}
use Rattle.std.specs.List.{AllByRecursion, Contains}
use Rattle.std.specs.List.Sorted.{IsStrictlySortedBy}
use Rattle.std.specs.declared.cmp.Ordering.{Ordering}
use Rattle.std.specs.declared.cmp.Ordering.TheVariants.{Less, Equal, Greater}
use Rattle.std.specs.Cmp.{IsTotalOrder, unsigned_ties}
use Rattle.std.specs.Cmp.Lexicographic.{lists_total, lists_ties, nat_list_cmp_total, pointwise, texts_ties}
use Rattle.std.specs.Ordering.{nat_cmp, ordering_reverse, is_eq}
use Rattle.std.specs.Str.{bytes_eq}
use Rattle.std.proofs.lemmas.Bool.{cases_Bool, false≢true, eqb-true}
use Rattle.std.proofs.lemmas.Cmp.{nat_cmp_total}
use Rattle.std.proofs.lemmas.Nat.{mul-le}
use Rattle.std.proofs.lemmas.List.{append_cancel_left, length-map}
use Rattle.std.proofs.lemmas.List.Concat.{flat_map-append}
use Rattle.std.proofs.lemmas.List.Elements.{All-contains, All-from_recursion, Contains-append_right}
use Rattle.std.proofs.lemmas.Map.Keys.{sorted_head, sorted_tail}
use Rattle.std.proofs.lemmas.Slice.Eq.{bytes_eq-Decides}
use Rattle.sudo_words.specs.declared.cmnd.Cmnd.{Cmnd}
use Rattle.sudo_words.specs.declared.cmnd.Cmnd.TheVariants.{All, Path, Dir}
use Rattle.sudo_policy.specs.declared.entry.Rule.{Rule}
use Rattle.sudo_policy.specs.declared.entry.Entry.{Entry}
use Rattle.sudo_policy.specs.Policy.{IsPolicy}
use Rattle.sudo_compiled.specs.declared.plain.PlainRule.{PlainRule}
use Rattle.sudo_decide.specs.Reach.{rules_in}
use Rattle.sudo_decide.specs.declared.scope.Scope.{Scope}
use Rattle.sudo_beyond.specs.declared.cases.Cases.{Cases}
use Rattle.sudo_beyond.specs.declared.run.Run.{Run}
use Rattle.sudo_beyond.specs.declared.size.Size.{Size}
use Rattle.sudo_beyond.specs.Standing.{users, hosts, runas, commands}
use Rattle.sudo_words.specs.Lists.{text_order, args_order, IsEachOnce, AreParts}
use Rattle.sudo_beyond.specs.Cases.{AreNamesAndOther, AreNameCases, run_of, path_in, paths, dir_in, dirs, listed_args, args_in, args_with}
use Rattle.sudo_beyond.specs.Cases.{ArePathCases, IsFreshFile, AreCommandCases, turns_of, turns, AreMomentCases, AreCases, product}
use Rattle.sudo_beyond.specs.Answer.{AreFew, most_cases}
use Rattle.sudo_beyond.specs.private.Gathering.{listing_in, listings}
use Rattle.sudo_beyond.specs.private.Baselines.{FixesNames, IsReady, IsSize, most_of}
use Rattle.sudo_beyond.proofs.AlikeLemmas.{all_weaker}
use Rattle.sudo_beyond.proofs.CmndCases.{args_decides, args_few, paths_few}
use Rattle.sudo_beyond.proofs.Counting.{flat_long, is_counted}
use Rattle.sudo_beyond.proofs.Fresh.{found_other}
use Rattle.sudo_words.proofs.Lists.{contains_head}
use Rattle.sudo_words.proofs.OneSorted.{cons_cases}

-- ---- lists of at most so many elements

pub record HasAtMost {Y : Type 0} (Is : List Y → Type 0) (most : ℕ) : Type 0 where
  pub list : List Y
  pub is : Is list
  pub few : length list ≤ most

-- ---- each once, in order

module _ {X : Type 0} (R : X → X → Ordering) (total : IsTotalOrder R) (exact : (x y : X) → R x y ≡ Equal → x ≡ y) where
  in_front : (x : X) (xs : List X) → AllByRecursion (λ y. R x y ≡ Less) xs → IsStrictlySortedBy R xs → IsStrictlySortedBy R (x ∷ xs)
  unfolding IsStrictlySortedBy
  in_front x xs below sorted = (below, sorted)

  none_sorted : IsStrictlySortedBy R []
  unfolding IsStrictlySortedBy
  none_sorted = tt

  all_of : (P : X → Type 0) (xs : List X) → ((z : X) → Contains xs z → P z) → AllByRecursion P xs
  all_of P [] each = tt
  all_of P (x ∷ xs) each = (each x (contains_head x xs), all_of P xs (λ z there. each z (Contains-append_right (x ∷ []) xs z there)))

  later_too : (x : X) (xs ys : List X) → ((z : X) → Contains xs z → Contains ys z) → (z : X) → Contains (x ∷ xs) z → Contains (x ∷ ys) z
  later_too x xs ys goes z there =
      elim (cons_cases x xs z there) [
        | inl same ↦ subst (λ (w : X). Contains (x ∷ ys) w) same (contains_head x ys)
        | inr later ↦ Contains-append_right (x ∷ []) ys z (goes z later)
      ]

  -- the first two change places
  turned : (x y : X) (xs : List X) (z : X) → Contains (x ∷ y ∷ xs) z → Contains (y ∷ x ∷ xs) z
  turned x y xs z there =
      elim (cons_cases x (y ∷ xs) z there) [
        | inl same ↦ Contains-append_right (y ∷ []) (x ∷ xs) z (subst (λ (w : X). Contains (x ∷ xs) w) same (contains_head x xs))
        | inr others ↦ later_too y xs (x ∷ xs) (λ w. Contains-append_right (x ∷ []) xs w) z others
      ]

  -- one more element among those that are in order
  record HasPut (x : X) (xs : List X) : Type 0 where
    list : List X
    in_order : IsStrictlySortedBy R list
    kept : (z : X) → Contains (x ∷ xs) z → Contains list z
    only : (z : X) → Contains list z → Contains (x ∷ xs) z
    short : length list ≤ length xs + 1

  put_before : (x y : X) (ys : List X) → IsStrictlySortedBy R (y ∷ ys) → R x y ≡ Less → HasPut x (y ∷ ys)
  put_before x y ys sorted low = record {
    list = x ∷ y ∷ ys;
    in_order =
        in_front x (y ∷ ys)
        (low, all_weaker (λ z. R y z ≡ Less) (λ z. R x z ≡ Less) ys (λ z below. total.trans x y z low below) (sorted_head R y ys sorted)) sorted;
    kept = λ z there. there;
    only = λ z there. there;
    short = omega arith;
  }

  put_there : (x y : X) (ys : List X) → IsStrictlySortedBy R (y ∷ ys) → R x y ≡ Equal → HasPut x (y ∷ ys)
  put_there x y ys sorted tied = record {
    list = y ∷ ys;
    in_order = sorted;
    kept = λ z there.
        elim (cons_cases x (y ∷ ys) z there) [
          | inl same ↦ subst (λ (w : X). Contains (y ∷ ys) w) (sym (exact x y tied) ∙ same) (contains_head y ys)
          | inr later ↦ later
        ];
    only = λ z there. Contains-append_right (x ∷ []) (y ∷ ys) z there;
    short = omega arith;
  }

  put_after : (x y : X) (ys : List X) → IsStrictlySortedBy R (y ∷ ys) → R x y ≡ Greater → HasPut x ys → HasPut x (y ∷ ys)
  put_after x y ys sorted high rest =
      let first : R y x ≡ Less = total.antisymm y x ∙ ap ordering_reverse high in
      let below : (z : X) → Contains rest.list z → R y z ≡ Less =
      λ z there.
      elim (cons_cases x ys z (rest.only z there)) [
        | inl same ↦ subst (λ (w : X). R y w ≡ Less) same first
        | inr later ↦ All-contains (λ w. R y w ≡ Less) ys z (All-from_recursion (λ w. R y w ≡ Less) ys (sorted_head R y ys sorted)) later
      ] in
      record {
        list = y ∷ rest.list;
        in_order = in_front y rest.list (all_of (λ z. R y z ≡ Less) rest.list below) rest.in_order;
        kept = λ z there. later_too y (x ∷ ys) rest.list rest.kept z (turned x y ys z there);
        only = λ z there. turned y x ys z (later_too y rest.list (x ∷ ys) rest.only z there);
        short = omega (arith, rest.short);
      }

  placed : (o : Ordering) (x y : X) (ys : List X) → R x y ≡ o → IsStrictlySortedBy R (y ∷ ys) → HasPut x ys → HasPut x (y ∷ ys)
  placed Less x y ys is sorted rest = put_before x y ys sorted is
  placed Equal x y ys is sorted rest = put_there x y ys sorted is
  placed Greater x y ys is sorted rest = put_after x y ys sorted is rest

  put : (x : X) (xs : List X) → IsStrictlySortedBy R xs → HasPut x xs
  put x [] sorted = record { list = x ∷ []; in_order = in_front x [] tt sorted; kept = λ z there. there; only = λ z there. there; short = omega arith }
  put x (y ∷ ys) sorted = placed (R x y) x y ys refl sorted (put x ys (sorted_tail R y ys sorted))

  pub once_of : (standing : List X) → HasAtMost (IsEachOnce R standing) (length standing)
  once_of [] = record { list = []; is = record { in_order = none_sorted; each = λ x there. there; only = λ x there. there }; few = omega arith }
  once_of (x ∷ xs) =
      let rest = once_of xs in
      let more = put x rest.list rest.is.in_order in
      record {
        list = more.list;
        is = record {
          in_order = more.in_order;
          each = λ z there. more.kept z (later_too x xs rest.list rest.is.each z there);
          only = λ z there. later_too x rest.list xs rest.is.only z (more.only z there);
        };
        few = omega (arith, more.short, rest.few);
      }

-- elements that the orders do not tell apart are equal
pub exact_texts : (x y : List ℕ) → text_order x y ≡ Equal → x ≡ y
exact_texts x y tied = (bytes_eq-Decides x y).0 (texts_ties x y ∙ ap is_eq tied)

exact_args : (x y : List (List ℕ)) → args_order x y ≡ Equal → x ≡ y
exact_args x y tied = sym ((args_decides y x).0 (lists_ties text_order texts_ties x y ∙ ap is_eq tied))

exact_moments : (x y : ℕ) → nat_cmp x y ≡ Equal → x ≡ y
exact_moments x y tied = eqb-true x y (unsigned_ties x y ∙ ap is_eq tied)

-- ---- parts

parts_of : {X Y : Type 0} (IsPart : X → List Y → Type 0) (most : ℕ) → ((x : X) → HasAtMost (IsPart x) most)
    → (xs : List X) → HasAtMost (AreParts IsPart xs) (length xs * most)
parts_of IsPart most each [] = record { list = []; is = refl; few = omega arith }
parts_of {X} {Y} IsPart most each (x ∷ xs) =
    let part = each x in
    let rest = parts_of IsPart most each xs in
    record {
      list = part.list ++ rest.list;
      is = (part.list, rest.list, refl, part.is, rest.is);
      few = subst (λ (n : ℕ). length (part.list ++ rest.list) ≤ n) (sym (suc-mul (length xs) most))
          (omega (arith, length-append part.list rest.list, part.few, rest.few));
    }

-- ---- commands

lists_few : (path : List ℕ) (cmnds : List Cmnd) → length (args_with path cmnds) ≤ length (listings cmnds)
lists_few path cmnds = flat_long (args_in path) listing_in cmnds each
  where
    each : (c : Cmnd) → length (args_in path c) ≤ length (listing_in c)
    each All = omega arith
    each (Path file rule) =
        elim (cases_Bool (bytes_eq path file)) [
          | inl is ↦ rw is (omega (arith, length-map (listed_args rule) (run_of file)))
          | inr isn't ↦ rw isn't (omega arith)
        ]
    each (Dir dir) = omega arith

one_kind : (c : Cmnd) → length (path_in c) + length (dir_in c) ≤ 1
one_kind All = omega arith
one_kind (Path file rule) = omega arith
one_kind (Dir dir) = omega arith

both_few : (cmnds : List Cmnd) → length (paths cmnds) + length (dirs cmnds) ≤ length cmnds
both_few [] = omega arith
both_few (c ∷ cmnds) = omega (arith, length-append (path_in c) (paths cmnds), length-append (dir_in c) (dirs cmnds), one_kind c, both_few cmnds)

-- the runs of so many paths and directories, where each makes no more than the most
room : (files directories of_files of_directories count most : ℕ) → files + directories ≤ count → of_files ≤ files * most → of_directories ≤ directories * most
    → of_files + of_directories ≤ count * most
room files directories of_files of_directories count most both few also =
    omega (arith, add-mul files directories most, mul-le (files + directories) most count most both (le_refl most), few, also)

and_one : {Y : Type 0} (xs ys zs : List Y) (most : ℕ) → length xs + length ys ≤ most → length zs ≤ 1 → length (xs ++ ys ++ zs) ≤ most + 1
and_one xs ys zs most few one = omega (arith, length-append (xs ++ ys) zs, length-append xs ys, few, one)

module _ (cmnds : List Cmnd) (counted : length cmnds < 2 ^ 64) where
  abbrev most_runs : ℕ
  most_runs = length (listings cmnds) + 2

  of_path : (path : List ℕ) → HasAtMost (ArePathCases cmnds path) most_runs
  of_path path =
      let lists = once_of args_order (lists_total nat_list_cmp_total) exact_args (args_with path cmnds) in
      let short : length (args_with path cmnds) < 2 ^ 64 = omega (arith, counted, args_few path cmnds) in
      let found = found_other (λ y x. pointwise bytes_eq x y) args_decides (λ w. w ∷ []) (λ v w same. cc) (args_with path cmnds) short in
      record {
        list = run_of path [] ∷ map (run_of path) lists.list ++ run_of path (found.word ∷ []) ∷ [];
        is = record { lists = lists.list; other_arg = found.word; runs_are = refl; lists_are = lists.is; other_is = found.first };
        few = omega (
          arith,
          length-append (map (run_of path) lists.list) (run_of path (found.word ∷ []) ∷ []),
          length-map lists.list (run_of path),
          lists.few,
          lists_few path cmnds,
        );
      }

  fresh : (dir : List ℕ) → HasAtMost (IsFreshFile (paths cmnds) dir) 1
  fresh dir =
      let short : length (paths cmnds) < 2 ^ 64 = omega (arith, counted, paths_few cmnds) in
      let found = found_other bytes_eq bytes_eq-Decides (λ w. dir ++ w) (λ v w same. append_cancel_left dir v w same) (paths cmnds) short in
      record {
        list = run_of (dir ++ found.word) [] ∷ [];
        is = record { name = found.word; runs_are = refl; name_is = found.first };
        few = omega arith;
      }

  fresh_few : (dir : List ℕ) → HasAtMost (IsFreshFile (paths cmnds) dir) most_runs
  fresh_few dir = let one = fresh dir in record { list = one.list; is = one.is; few = omega (arith, one.few) }

  pub of_commands : HasAtMost (AreCommandCases cmnds) (length cmnds * most_runs + 1)
  of_commands =
      let files = once_of text_order nat_list_cmp_total exact_texts (paths cmnds) in
      let directories = once_of text_order nat_list_cmp_total exact_texts (dirs cmnds) in
      let of_files = parts_of (ArePathCases cmnds) most_runs of_path files.list in
      let of_directories = parts_of (IsFreshFile (paths cmnds)) most_runs fresh_few directories.list in
      let elsewhere = fresh (codes "/") in
      let all_few : length of_files.list + length of_directories.list ≤ length cmnds * most_runs =
      room (length files.list) (length directories.list) (length of_files.list) (length of_directories.list) (length cmnds) most_runs
      (omega (arith, files.few, directories.few, both_few cmnds)) of_files.few of_directories.few in
      record {
        list = of_files.list ++ of_directories.list ++ elsewhere.list;
        is = record {
          files = files.list;
          directories = directories.list;
          of_files = of_files.list;
          of_directories = of_directories.list;
          elsewhere = elsewhere.list;
          runs_are = refl;
          files_are = files.is;
          directories_are = directories.is;
          of_files_are = of_files.is;
          of_directories_are = of_directories.is;
          elsewhere_is = elsewhere.is;
        };
        few = and_one of_files.list of_directories.list elsewhere.list (length cmnds * most_runs) all_few elsewhere.few;
      }

-- ---- moments

pub of_moments : (rules : List Rule) → HasAtMost (AreMomentCases rules) (length (turns rules) + 1)
of_moments rules =
    let once = once_of nat_cmp nat_cmp_total exact_moments (0 ∷ turns rules) in
    record { list = once.list; is = once.is; few = omega (arith, once.few) }

-- ---- names

-- where the names are not fixed, those that stand in the policies and one more
all_names : (standing : List (List ℕ)) → length standing < 2 ^ 64 → (cases : List (List ℕ)) × AreNamesAndOther standing cases
all_names standing short =
    let once = once_of text_order nat_list_cmp_total exact_texts standing in
    let found = found_other bytes_eq bytes_eq-Decides (λ w. w) (λ v w same. same) standing short in (
      once.list ++ found.word ∷ [],
      record { names = once.list; other_name = found.word; cases_are = refl; names_are = once.is; other_is = found.first },
    )

pub of_names : (fixed : Option (List ℕ)) (standing : List (List ℕ)) → length standing < 2 ^ 64 → (cases : List (List ℕ)) × AreNameCases fixed standing cases
of_names (Some name) standing short = (name ∷ [], refl)
of_names None standing short = all_names standing short

of_fixed : (fixed : Option (List ℕ)) (standing : List (List ℕ)) → is_some fixed ≡ true → HasAtMost (AreNameCases fixed standing) 1
of_fixed (Some name) standing some = record { list = name ∷ []; is = refl; few = omega arith }
of_fixed None standing some = absurd (false≢true some)

-- ---- the five

product_few : (u h t r m runs moments : ℕ) → u ≤ 1 → h ≤ 1 → t ≤ 1 → r ≤ runs → m ≤ moments → u * h * t * r * m ≤ runs * moments
product_few u h t r m runs moments one_user one_host one_target few_runs few_moments =
    let hosts_too : u * h ≤ 1 = mul-le u h 1 1 one_user one_host in
    let targets_too : u * h * t ≤ 1 = mul-le (u * h) t 1 1 hosts_too one_target in
    let runs_too : u * h * t * r ≤ 1 * runs = mul-le (u * h * t) r 1 runs targets_too few_runs in
    let alone : u * h * t * r ≤ runs = subst (λ (n : ℕ). u * h * t * r ≤ n) (one-mul runs) runs_too in
    mul-le (u * h * t * r) m runs moments alone few_moments

pub record HasCases (s : Scope) (a b : List Entry) (most : ℕ) : Type 0 where
  pub cases : Cases
  pub are_cases : AreCases s a b cases
  pub few : product cases ≤ most

pub cases_of : (s : Scope) (a b : List Entry) → IsPolicy a → IsPolicy b → FixesNames s
    → HasCases s a b (most_of (length (commands a ++ commands b)) (length (listings (commands a ++ commands b))) (length (turns (rules_in a ++ rules_in b))))
cases_of s a b is_a is_b fixed =
    let by_user = of_fixed s.user (users a ++ users b) fixed.user in
    let by_host = of_fixed s.host (hosts a ++ hosts b) fixed.host in
    let by_target = of_fixed s.runas (runas a ++ runas b) fixed.runas in
    let by_run = of_commands (commands a ++ commands b) (is_counted a b is_a is_b).commands in
    let by_moment = of_moments (rules_in a ++ rules_in b) in
    record {
      cases = record { users = by_user.list; hosts = by_host.list; targets = by_target.list; runs = by_run.list; moments = by_moment.list };
      are_cases = record { users = by_user.is; hosts = by_host.is; targets = by_target.is; runs = by_run.is; moments = by_moment.is };
      few = product_few (length by_user.list) (length by_host.list) (length by_target.list) (length by_run.list)
          (length by_moment.list) _ _ by_user.few by_host.few by_target.few by_run.few by_moment.few;
    }

-- where so little stands in both policies, the cases are few
pub few_of : (s : Scope) (a b : List Entry) (rules : List PlainRule) (m n : Size) → IsPolicy a → IsSize a m → IsReady b rules n
    → FixesNames s → most_of (m.commands + n.commands) (m.listings + n.listings) (m.turns + n.turns) ≤ most_cases → AreFew s a b
few_of s a b rules m n is_a size ready fixed few =
    let has = cases_of s a b is_a ready.policy fixed in
    let all_commands : m.commands + n.commands ≡ length (commands a ++ commands b) =
    omega (arith, length-append (commands a) (commands b), size.commands_are, ready.size.commands_are) in
    let all_listings : m.listings + n.listings ≡ length (listings (commands a ++ commands b)) =
    omega (
      arith,
      ap (λ (runs : List Run). length runs) (flat_map-append listing_in (commands a) (commands b)),
      length-append (listings (commands a)) (listings (commands b)),
      size.listings_are,
      ready.size.listings_are,
    ) in
    let all_turns : m.turns + n.turns ≡ length (turns (rules_in a ++ rules_in b)) =
    omega (
      arith,
      ap (λ (moments : List ℕ). length moments) (flat_map-append turns_of (rules_in a) (rules_in b)),
      length-append (turns (rules_in a)) (turns (rules_in b)),
      size.turns_are,
      ready.size.turns_are,
    ) in
    let low :
    most_of (length (commands a ++ commands b)) (length (listings (commands a ++ commands b))) (length (turns (rules_in a ++ rules_in b))) ≤ most_cases =
    subst (λ (t : ℕ). most_of (length (commands a ++ commands b)) (length (listings (commands a ++ commands b))) t ≤ most_cases) all_turns
    (subst (λ (l : ℕ). most_of (length (commands a ++ commands b)) l (m.turns + n.turns) ≤ most_cases) all_listings
    (subst (λ (c : ℕ). most_of c (m.listings + n.listings) (m.turns + n.turns) ≤ most_cases) all_commands few)) in
    record { cases = has.cases; are_cases = has.are_cases; few = le_trans has.few low }
