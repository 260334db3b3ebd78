-- Names that rise: where a binary search ends; and a table's keys rise.
use Rattle.std.proofs.Common.{◌≡◌, ◌<◌, ◌≤◌, ◌+◌, ℕ, zero, suc, ◌∙◌, false, List, [], ◌∷◌, length, get_or, map, Option, Some}
use Rattle.std.proofs.Common.{None, String, Ordering, Less, Equal, Greater, string_bytes, refl, sym, ap, subst, arith, ⊎_elim}
use Rattle.std.specs.Prelude.{if◌then◌else◌}
use Rattle.std.specs.declared.alloc.Global.{Global}
use Rattle.std.specs.Cmp.Lexicographic.{slice_cmp, nat_list_cmp_total, texts_ties}
use Rattle.std.specs.List.{AllByRecursion}
use Rattle.std.specs.List.Sorted.{IsStrictlySortedBy}
use Rattle.std.specs.Map.{keys_of}
use Rattle.std.specs.Ordering.{nat_cmp, is_eq, ordering_reverse}
use Rattle.std.specs.Str.{bytes_eq}
use Rattle.std.specs.String.{string_cmp}
use Rattle.std.proofs.lemmas.Bool.{cases_lt}
use Rattle.std.proofs.lemmas.Option.{same_Some, none-some}
use Rattle.sudo_words.specs.declared.cmnd.Cmnd.{Cmnd}
use Rattle.toml.specs.Data.{Data}
use Rattle.toml.specs.View.{members_view}
use Rattle.toml.proofs.Views.{Entry}
use Rattle.roster.specs.Document.{◌>>=◌, each_member}
use Rattle.roster.specs.Fields.{CeilingFields, RosterFields, entry_in_texts, in_texts}
use Rattle.roster.specs.Relations.{entry_of, AreRising, IsOrdered}

abbrev order : List ℕ → List ℕ → Ordering
order = slice_cmp nat_cmp

-- ---- the order of texts

turned : (a b : List ℕ) → order a b ≡ Less → order b a ≡ Greater
turned a b e = nat_list_cmp_total.antisymm b a ∙ ap ordering_reverse e

-- what is before a text is before any text equal to it
less_equal : (a b n : List ℕ) → order a b ≡ Less → order b n ≡ Equal → order a n ≡ Less
less_equal a b n lt eq = nat_list_cmp_total.antisymm a n ∙ ap ordering_reverse (sym (nat_list_cmp_total.congr b n a eq) ∙ turned a b lt)

-- if a text is before another and after a third, the other is after the third as well
greater_then : (a b n : List ℕ) → order a b ≡ Less → order a n ≡ Greater → order b n ≡ Greater
greater_then a b n lt gt =
    let before : order n a ≡ Less = nat_list_cmp_total.antisymm n a ∙ ap ordering_reverse gt in
    nat_list_cmp_total.antisymm b n ∙ ap ordering_reverse (nat_list_cmp_total.trans n a b before lt)

-- ---- names that rise

first_before : {X : Type 0} (e : List ℕ × X) (es : List (List ℕ × X)) → AreRising (e ∷ es) → (i : ℕ) (d : List ℕ × X) → i < length es
    → order e.0 (get_or es i d).0 ≡ Less
unfolding IsStrictlySortedBy
first_before e [] r i d l = absurd (omega arith)
first_before e (f ∷ es) r zero d l = r.0.0
first_before e (f ∷ es) r (suc i) d l = first_before e es (r.0.1, r.1.1) i d (omega arith)

rest_rises : {X : Type 0} (e : List ℕ × X) (es : List (List ℕ × X)) → AreRising (e ∷ es) → AreRising es
unfolding IsStrictlySortedBy
rest_rises e es r = r.1

rise_between : {X : Type 0} (es : List (List ℕ × X)) → AreRising es → (i j : ℕ) (d : List ℕ × X) → i < j → j < length es
    → order (get_or es i d).0 (get_or es j d).0 ≡ Less
rise_between [] r i j d below l = absurd (omega arith)
rise_between (e ∷ es) r i zero d below l = absurd (omega arith)
rise_between (e ∷ es) r zero (suc j) d below l = first_before e es r j d (omega arith)
rise_between (e ∷ es) r (suc i) (suc j) d below l = rise_between es (rest_rises e es r) i j d (omega arith) (omega arith)

-- ---- where a search ends

unequal : (a n : List ℕ) → order a n ≡ Less → bytes_eq a n ≡ false
unequal a n e = texts_ties a n ∙ ap is_eq e

found_at : {X : Type 0} (es : List (List ℕ × X)) → AreRising es → (i : ℕ) (name : List ℕ) (d : List ℕ × X) → i < length es
    → order (get_or es i d).0 name ≡ Equal → entry_of es name ≡ Some (get_or es i d).1
found_at [] r i name d l e = absurd (omega arith)
found_at (x ∷ es) r zero name d l e = ap (λ b. if b then Some x.1 else entry_of es name) (texts_ties x.0 name ∙ ap is_eq e)
found_at (x ∷ es) r (suc i) name d l e =
    ap (λ b. if b then Some x.1 else entry_of es name) (unequal x.0 name (less_equal x.0 (get_or es i d).0 name (first_before x es r i d (omega arith)) e))
    ∙ found_at es (rest_rises x es r) i name d (omega arith) e

absent : {X : Type 0} (es : List (List ℕ × X)) (name : List ℕ) → ((k : ℕ) (d : List ℕ × X) → k < length es → is_eq (order (get_or es k d).0 name) ≡ false)
    → entry_of es name ≡ None
absent [] name none = refl
absent (x ∷ es) name none =
    ap (λ b. if b then Some x.1 else entry_of es name) (texts_ties x.0 name ∙ none 0 x (omega arith))
    ∙ absent es name (λ k d l. none (suc k) d (omega arith))

pub same_place : {X : Type 0} (xs : List X) (i : ℕ) (d e : X) → i < length xs → get_or xs i d ≡ get_or xs i e
same_place [] i d e l = absurd (omega arith)
same_place (x ∷ xs) zero d e l = refl
same_place (x ∷ xs) (suc i) d e l = same_place xs i d e (omega arith)

-- the name of each entry between two indexes compares like this with the name
abbrev pub Compare : {X : Type 0} → List (List ℕ × X) → List ℕ → Ordering → (from to : ℕ) → Type 0
Compare {X} es name r from to = (k : ℕ) (d : List ℕ × X) → from ≤ k → k < to → k < length es → order (get_or es k d).0 name ≡ r

-- if an entry is before the name, so are all before it
pub all_below : {X : Type 0} (es : List (List ℕ × X)) → AreRising es → (name : List ℕ) (m : ℕ) (x : List ℕ × X) → m < length es
    → x ≡ get_or es m x → order x.0 name ≡ Less → Compare es name Less 0 (m + 1)
all_below es rising name m x l is lt k d from to in_range =
    let here : order (get_or es m d).0 name ≡ Less = ap (λ e. order e.0 name) (same_place es m d x l ∙ sym is) ∙ lt in
    ⊎_elim
    (λ below. nat_list_cmp_total.trans (get_or es k d).0 (get_or es m d).0 name (rise_between es rising k m d below l) here)
    (λ above. let same : m ≡ k = omega (arith, above, to) in subst (λ q. order (get_or es q d).0 name ≡ Less) same here)
    (cases_lt k m)

-- if an entry is after the name, so are all after it
pub all_above : {X : Type 0} (es : List (List ℕ × X)) → AreRising es → (name : List ℕ) (m : ℕ) (x : List ℕ × X) → m < length es
    → x ≡ get_or es m x → order x.0 name ≡ Greater → Compare es name Greater m (length es)
all_above es rising name m x l is gt k d from to in_range =
    let here : order (get_or es m d).0 name ≡ Greater = ap (λ e. order e.0 name) (same_place es m d x l ∙ sym is) ∙ gt in
    ⊎_elim
    (λ below. greater_then (get_or es m d).0 (get_or es k d).0 name (rise_between es rising m k d below in_range) here)
    (λ above. let same : m ≡ k = omega (arith, above, from) in subst (λ q. order (get_or es q d).0 name ≡ Greater) same here)
    (cases_lt m k)

-- an entry that has the name is found
pub found : {X : Type 0} (es : List (List ℕ × X)) → AreRising es → (name : List ℕ) (m : ℕ) (x : List ℕ × X) → m < length es
    → x ≡ get_or es m x → order x.0 name ≡ Equal → entry_of es name ≡ Some x.1
found es rising name m x l is eq =
    found_at es rising m name x l (ap (λ e. order e.0 name) (sym is) ∙ eq) ∙ ap (λ e. Some e.1) (sym is)

-- if the entries before an index are before the name, and those from there on after it, the name is absent
pub not_found : {X : Type 0} (es : List (List ℕ × X)) (name : List ℕ) (m : ℕ) → Compare es name Less 0 m → Compare es name Greater m (length es)
    → entry_of es name ≡ None
not_found es name m below above = absent es name (λ k d in_range. ⊎_elim
    (λ l. ap is_eq (below k d (omega arith) l in_range))
    (λ g. ap is_eq (above k d g in_range in_range))
    (cases_lt k m))

-- ---- a table's keys rise

all_in_bytes : (k : String Global) (ks : List (String Global)) → AllByRecursion (λ y. string_cmp k y ≡ Less) ks
    → AllByRecursion (λ y. order (string_bytes k) y ≡ Less) (map string_bytes ks)
all_in_bytes k [] a = a
all_in_bytes k (y ∷ ks) a = (a.0, all_in_bytes k ks a.1)

rise_in_bytes : (ks : List (String Global)) → IsStrictlySortedBy string_cmp ks → IsStrictlySortedBy order (map string_bytes ks)
unfolding IsStrictlySortedBy
rise_in_bytes [] s = s
rise_in_bytes (k ∷ ks) s = (all_in_bytes k ks s.0, rise_in_bytes ks s.1)

read_first : {X : Type 0} (o : Option X) (rest : Option (List (List ℕ × X))) (k : List ℕ) (xs : List (List ℕ × X))
    → (o >>= λ x. rest >>= λ ys. Some ((k, x) ∷ ys)) ≡ Some xs → (ys : List (List ℕ × X)) × (rest ≡ Some ys) × (keys_of xs ≡ k ∷ keys_of ys)
read_first None rest k xs e = absurd (none-some xs e)
read_first (Some x) None k xs e = absurd (none-some xs e)
read_first (Some x) (Some ys) k xs e = (ys, refl, ap keys_of (sym (same_Some _ _ e)))

keys_read : {X : Type 0} (f : Data → Option X) (es : List Entry) (xs : List (List ℕ × X)) → each_member f (members_view es) ≡ Some xs
    → keys_of xs ≡ map string_bytes (keys_of es)
keys_read f [] xs e = ap keys_of (sym (same_Some _ _ e))
keys_read f (x ∷ es) xs e =
    let first = read_first _ (each_member f (members_view es)) (string_bytes x.0) xs e in
    first.2 ∙ ap (λ ks. string_bytes x.0 ∷ ks) (keys_read f es first.0 first.1)

pub members_rise : {X : Type 0} (f : Data → Option X) (es : List Entry) (xs : List (List ℕ × X)) → each_member f (members_view es) ≡ Some xs
    → IsStrictlySortedBy string_cmp (keys_of es) → AreRising xs
members_rise f es xs e s = subst (IsStrictlySortedBy order) (sym (keys_read f es xs e)) (rise_in_bytes (keys_of es) s)

-- ---- a roster and the same in texts rise alike

keys_in_texts : (cs : List (List ℕ × CeilingFields Cmnd)) → keys_of (map entry_in_texts cs) ≡ keys_of cs
keys_in_texts [] = refl
keys_in_texts (c ∷ cs) = ap (λ ks. c.0 ∷ ks) (keys_in_texts cs)

pub ordered_in_texts : (f : RosterFields Cmnd) (t : RosterFields (List ℕ)) → in_texts f ≡ t → IsOrdered t → IsOrdered f
ordered_in_texts f t same o =
    let o' : IsOrdered (in_texts f) = subst IsOrdered (sym same) o in
    record { people = o'.people; ceilings = subst (IsStrictlySortedBy order) (keys_in_texts f.ceilings) o'.ceilings }
