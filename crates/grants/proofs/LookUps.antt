-- What a command lies inside, looked up: `ALL`, its directory, and the file itself.
use Rattle.std.proofs.Common.{◌≡◌, ℕ, ◌+◌, ◌-◌, ◌==◌, Bool, true, false, ◌&&◌, ◌||◌, List, [], ◌∷◌, ◌++◌, length}
use Rattle.std.proofs.Common.{take, drop, refl, sym, ap, ap₂, ◌∙◌, subst, inl, inr, arith, append_assoc, All}
use Rattle.std.specs.List.{AllByRecursion, list_all, list_any, slice_split}
use Rattle.std.specs.Str.{bytes_eq}
use Rattle.std.specs.Cmp.{both_ways as one_answer}
use Rattle.std.specs.Cmp.Lexicographic.{pointwise, lists_equiv, nat_list_eq_equiv}
use Rattle.std.proofs.lemmas.Bool.{and_parts, both_ways}
use Rattle.std.proofs.lemmas.List.{take-append-drop, take_more}
use Rattle.std.proofs.lemmas.List.Elements.{All-from_recursion, recursion_from_All}
use Rattle.std.proofs.lemmas.List.Folds.{list_all-append}
use Rattle.std.proofs.lemmas.List.Splits.{slice_split_none}
use Rattle.std.proofs.lemmas.Slice.Eq.{bytes_eq-Decides}
use Rattle.sudo_words.specs.Word.{is_component, are_components, is_absolute, is_file_path, is_dir_path}
use Rattle.sudo_words.specs.Command.{is_directly_in, IsLawful}
use Rattle.sudo_words.specs.declared.cmnd.Cmnd.{Cmnd}
use Rattle.sudo_words.specs.declared.cmnd.Cmnd.TheVariants.{Path, Dir}
use Rattle.sudo_words.specs.declared.cmnd.Cmnd.TheVariants as cmnds
use Rattle.sudo_words.specs.declared.cmnd.ArgRule.{ArgRule}
use Rattle.sudo_words.specs.declared.cmnd.ArgRule.TheVariants.{Any, Empty, Exactly}
use Rattle.roster.specs.Commands.{is_dir, is_file, same_rule}
use Rattle.roster.proofs.DutyLemmas.{any_same}
use Rattle.grants.specs.private.Forms.{is_all, is_inside, rule_inside, IsDirOf}
use Rattle.grants.proofs.DirLemmas.{is_slash, split_joined}
use Rattle.grants.proofs.DirWitnesses.{bytes_of, last_slash, same_bytes, split_dir, within}

-- ---- one test of several

regroup : (a b c d : Bool) → ((a || b) || (c || d)) ≡ ((a || c) || (b || d))
regroup true b c d = refl
regroup false true true d = refl
regroup false true false d = refl
regroup false false c d = refl

any_or : {X : Type 0} (f g : X → Bool) (xs : List X) → list_any (λ x. f x || g x) xs ≡ (list_any f xs || list_any g xs)
any_or f g [] = refl
any_or f g (x ∷ xs) = ap (λ b. (f x || g x) || b) (any_or f g xs) ∙ regroup (f x) (g x) (list_any f xs) (list_any g xs)

any_alike : {X : Type 0} (f g : X → Bool) (xs : List X) → AllByRecursion (λ x. f x ≡ g x) xs → list_any f xs ≡ list_any g xs
any_alike f g [] h = refl
any_alike f g (x ∷ xs) h = ap₂ (λ a b. a || b) h.0 (any_alike f g xs h.1)

each_from : {X : Type 0} (P Q : X → Type 0) → ((x : X) → P x → Q x) → (xs : List X) → AllByRecursion P xs → AllByRecursion Q xs
each_from P Q f [] h = h
each_from P Q f (x ∷ xs) h = (f x h.0, each_from P Q f xs h.1)

-- ---- the directory of a file

-- after the last slash of a file's path comes a component
name_is : (f y name : List ℕ) → is_absolute f ≡ true → f ≡ y ++ 47 ∷ name → AllByRecursion (λ b. (b == 47) ≡ false) name → is_component name ≡ true
name_is f [] name h is plain =
    let comps : are_components name ≡ true = (and_parts true (are_components name) (ap is_absolute (sym is) ∙ h)).1 in
    let one : slice_split is_slash name ≡ name ∷ [] = slice_split_none is_slash name (All-from_recursion (λ b. is_slash b ≡ false) name plain) in
    (and_parts (is_component name) true (ap (list_all is_component) (sym one) ∙ comps)).0
name_is f (a ∷ ys) name h is plain =
    let comps : are_components (ys ++ 47 ∷ name) ≡ true = (and_parts (a == 47) (are_components (ys ++ 47 ∷ name)) (ap is_absolute (sym is) ∙ h)).1 in
    let parts = and_parts (list_all is_component (slice_split is_slash ys)) (list_all is_component (slice_split is_slash name))
    (sym (list_all-append is_component (slice_split is_slash ys) (slice_split is_slash name))
    ∙ ap (list_all is_component) (sym (split_joined ys name)) ∙ comps) in
    let one : slice_split is_slash name ≡ name ∷ [] = slice_split_none is_slash name (All-from_recursion (λ b. is_slash b ≡ false) name plain) in
    (and_parts (is_component name) true (ap (list_all is_component) (sym one) ∙ parts.1)).0

same_dir : (d f y name : List ℕ) → is_dir_path d ≡ true → is_absolute f ≡ true
    → f ≡ y ++ 47 ∷ name → is_component name ≡ true → is_directly_in d f ≡ true → d ≡ y ++ 47 ∷ []
same_dir d f y name hd hf is hn h =
    let x = split_dir d hd in
    let w = drop (length d) f in
    let parts = and_parts (bytes_eq (take (length d) f) d) (is_component w) h in
    let whole : f ≡ d ++ w = sym (take-append-drop (length d) f) ∙ ap (λ (z : List ℕ). z ++ w) (same_bytes (take (length d) f) d parts.0) in
    let right : d ++ w ≡ x.0 ++ 47 ∷ w = ap (λ (z : List ℕ). z ++ w) x.1 ∙ append_assoc x.0 (47 ∷ []) w in
    let stems : x.0 ≡ y = last_slash x.0 y w name (sym right ∙ sym whole ∙ is) (bytes_of w parts.1) (bytes_of name hn) in
    x.1 ∙ ap (λ (z : List ℕ). z ++ 47 ∷ []) stems

in_same_dir : (d f y name : List ℕ) → f ≡ y ++ 47 ∷ name → is_component name ≡ true → d ≡ y ++ 47 ∷ [] → is_directly_in d f ≡ true
in_same_dir d f y name is hn same =
    let whole : f ≡ d ++ name = is ∙ sym (append_assoc y (47 ∷ []) name) ∙ ap (λ (z : List ℕ). z ++ name) (sym same) in
    ap (is_directly_in d) whole ∙ within d name hn

-- a file's directory, with its last slash, and what comes after it
pub record Parted (f dir : List ℕ) : Type 0 where
  pub front : List ℕ
  pub name : List ℕ
  pub dir_is : dir ≡ front ++ 47 ∷ []
  pub whole : f ≡ front ++ 47 ∷ name
  pub component : is_component name ≡ true

no_slash : (f : List ℕ) → is_absolute f ≡ true → AllByRecursion (λ b. (b == 47) ≡ false) f → ⊥
no_slash [] h plain = both_ways false refl h
no_slash (b ∷ bs) h plain = both_ways (b == 47) plain.0 (and_parts (b == 47) (are_components bs) h).0

parted : (f dir : List ℕ) → is_absolute f ≡ true → IsDirOf f dir → Parted f dir
parted f dir h d =
    elim d.slash as (λ _. Parted f dir) [
      | inl none ↦ absurd (no_slash f h (subst (λ n. AllByRecursion (λ b. (b == 47) ≡ false) (drop n f)) none d.name))
      | inr some ↦
          let front = take (d.end - 1) f in
          let name = drop d.end f in
          let next : d.end - 1 + 1 ≡ d.end = omega (arith, some.0) in
          let at : take d.end f ≡ front ++ 47 ∷ [] =
          ap (λ n. take n f) (sym next) ∙ take_more f (d.end - 1) 0 (omega (arith, some.0, d.within)) ∙ ap (λ b. front ++ b ∷ []) some.1 in
          let whole : f ≡ front ++ 47 ∷ name = sym (take-append-drop d.end f) ∙ ap (λ (z : List ℕ). z ++ name) at ∙ append_assoc front (47 ∷ []) name in
          record { front = front; name = name; dir_is = d.is ∙ at; whole = whole; component = name_is f front name h whole d.name }
    ]

pub in_dir : (d f dir : List ℕ) → is_dir_path d ≡ true → is_file_path f ≡ true → IsDirOf f dir → is_directly_in d f ≡ bytes_eq d dir
in_dir d f dir hd hf is =
    let absolute = (and_parts (is_absolute f) _ hf).0 in
    let p = parted f dir absolute is in
    one_answer (is_directly_in d f) (bytes_eq d dir)
    (λ e. (bytes_eq-Decides d dir).1 (same_dir d f p.front p.name hd absolute p.whole p.component e ∙ sym p.dir_is))
    (λ e. in_same_dir d f p.front p.name p.whole p.component (same_bytes d dir e ∙ p.dir_is))

-- ---- what a file lies inside

or_false : (b : Bool) → b ≡ (b || false)
or_false true = refl
or_false false = refl

either : (b x : Bool) → b && true ≡ (b && true || b && x)
either true x = refl
either false x = refl

other : (b : Bool) → b && true ≡ (b && false || b && true)
other true = refl
other false = refl

neither : (b : Bool) → b && false ≡ (b && false || b && false)
neither true = refl
neither false = refl

behind : (b x : Bool) → b && x ≡ (b && false || b && x)
behind true x = refl
behind false x = refl

turned : (a e : List (List ℕ)) → pointwise bytes_eq a e ≡ pointwise bytes_eq e a
turned a e = (lists_equiv nat_list_eq_equiv).symm a e

by_rule : (b : Bool) (r s : ArgRule) → b && rule_inside r s ≡ (b && same_rule s Any || b && same_rule s r)
by_rule b r Any = either b (same_rule Any r)
by_rule b Any Empty = neither b
by_rule b Empty Empty = other b
by_rule b (Exactly a) Empty = neither b
by_rule b Any (Exactly e) = neither b
by_rule b Empty (Exactly e) = neither b
by_rule b (Exactly a) (Exactly e) = behind b (pointwise bytes_eq a e) ∙ ap (λ x. b && false || b && x) (turned a e)

file_inside : (f dir : List ℕ) (r : ArgRule) (c : Cmnd) → is_file_path f ≡ true → IsDirOf f dir → IsLawful c
    → is_inside (Path f r) c ≡ (((is_all c || is_dir dir c) || is_file f Any c) || is_file f r c)
file_inside f dir r cmnds.All hf is hc = refl
file_inside f dir r (Dir d) hf is hc = in_dir d f dir hc.head.0 hf is ∙ or_false (bytes_eq d dir) ∙ or_false (bytes_eq d dir || false)
file_inside f dir r (Path g s) hf is hc = by_rule (bytes_eq f g) r s ∙ ap (λ b. b && same_rule s Any || b && same_rule s r) (nat_list_eq_equiv.symm f g)

file_or_all : (f dir : List ℕ) (r : ArgRule) (cs : List Cmnd) → is_file_path f ≡ true → IsDirOf f dir → All IsLawful cs
    → list_any (is_inside (Path f r)) cs ≡ (((list_any is_all cs || list_any (is_dir dir) cs) || list_any (is_file f Any) cs) || list_any (is_file f r) cs)
file_or_all f dir r cs hf is lawful =
    any_alike (is_inside (Path f r)) (λ c. ((is_all c || is_dir dir c) || is_file f Any c) || is_file f r c) cs (each_from IsLawful (λ c. is_inside (Path f r) c
    ≡ (((is_all c || is_dir dir c) || is_file f Any c) || is_file f r c)) (λ c. file_inside f dir r c hf is) cs (recursion_from_All IsLawful cs lawful))
    ∙ any_or (λ c. (is_all c || is_dir dir c) || is_file f Any c) (is_file f r) cs ∙ ap (λ b. b || list_any (is_file f r) cs)
    (any_or (λ c. is_all c || is_dir dir c) (is_file f Any) cs ∙ ap (λ b. b || list_any (is_file f Any) cs) (any_or is_all (is_dir dir) cs))

-- among commands without `ALL`
pub file_inside_one : (f dir : List ℕ) (r : ArgRule) (cs : List Cmnd) → is_file_path f ≡ true → IsDirOf f dir → All IsLawful cs → list_any is_all cs ≡ false
    → list_any (is_inside (Path f r)) cs ≡ ((list_any (is_dir dir) cs || list_any (is_file f Any) cs) || list_any (is_file f r) cs)
file_inside_one f dir r cs hf is lawful e =
    file_or_all f dir r cs hf is lawful ∙ ap (λ b. ((b || list_any (is_dir dir) cs) || list_any (is_file f Any) cs) || list_any (is_file f r) cs) e

-- ---- what a directory and `ALL` lie inside

dir_inside : (d : List ℕ) (c : Cmnd) → is_inside (Dir d) c ≡ (is_all c || is_dir d c)
dir_inside d cmnds.All = refl
dir_inside d (Dir e) = nat_list_eq_equiv.symm d e
dir_inside d (Path g s) = refl

pub dir_inside_one : (d : List ℕ) (cs : List Cmnd) → list_any is_all cs ≡ false → list_any (is_inside (Dir d)) cs ≡ list_any (is_dir d) cs
dir_inside_one d cs e =
    any_same (is_inside (Dir d)) (λ c. is_all c || is_dir d c) (dir_inside d) cs ∙ any_or is_all (is_dir d) cs ∙ ap (λ b. b || list_any (is_dir d) cs) e

-- where `ALL` is among them, each lies inside one
inside_all : (k c : Cmnd) → is_inside k c ≡ (is_all c || is_inside k c)
inside_all k cmnds.All = refl
inside_all k (Dir d) = refl
inside_all k (Path g s) = refl

in_all : (cs : List Cmnd) → list_any is_all cs ≡ true → (k : Cmnd) → list_any (is_inside k) cs ≡ true
in_all cs e k =
    any_same (is_inside k) (λ c. is_all c || is_inside k c) (inside_all k) cs ∙ any_or is_all (is_inside k) cs ∙ ap (λ b. b || list_any (is_inside k) cs) e

pub each_in_all : (cs ks : List Cmnd) → list_any is_all cs ≡ true → list_all (λ k. list_any (is_inside k) cs) ks ≡ true
each_in_all cs [] e = refl
each_in_all cs (k ∷ ks) e = ap₂ (λ a b. a && b) (in_all cs e k) (each_in_all cs ks e)

all_inside : (c : Cmnd) → is_inside cmnds.All c ≡ is_all c
all_inside cmnds.All = refl
all_inside (Dir d) = refl
all_inside (Path g s) = refl

pub all_inside_one : (cs : List Cmnd) → list_any (is_inside cmnds.All) cs ≡ list_any is_all cs
all_inside_one cs = any_same (is_inside cmnds.All) is_all all_inside cs
