-- Maps whose keys are the names of requests: what they have at each name once one name is set, and as lists.
use Rattle.std.proofs.Common.{◌≡◌, ℕ, ◌⊎◌, true, false, List, [], ◌∷◌, Option, Some, None, refl, sym, ap, ◌∙◌, subst, inl, inr}
use Rattle.std.specs.BTreeMap.{BTreeMap, IsOrdered, Updates, is_at, values}
use Rattle.std.specs.Cmp.{IsTotalOrder}
use Rattle.std.specs.List.{Contains}
use Rattle.std.specs.Map.{lookup, values_of}
use Rattle.std.specs.Cmp.Lexicographic.{slice_cmp}
use Rattle.std.specs.Ordering.{nat_cmp, ordering_then, is_eq}
use Rattle.std.specs.declared.cmp.Ordering.{Ordering}
use Rattle.std.specs.declared.cmp.Ordering.TheVariants.{Less, Equal, Greater}
use Rattle.std.proofs.lemmas.Bool.{cases_Bool, false_from_ne_true}
use Rattle.std.proofs.lemmas.Cmp.{nat_list_cmp_total, nat_cmp_total, on_total, then_total, tied_itself}
use Rattle.std.proofs.lemmas.Map.Entries.{place_from_lookup, btree_map_get_place}
use Rattle.std.proofs.lemmas.Map.Lookups.{exact_pairs, exact_bytes, exact_unsigned}
use Rattle.messages.specs.Names.{name_cmp}
use Rattle.messages.specs.declared.request_name.RequestName.{RequestName}
use Rattle.outcomes.specs.private.ByName.{at_name}
use Rattle.outcomes.proofs.Membership.{no_member, Contains-head, Contains-behind, Contains-cases, Contains-from_get, get_from_Contains}

pub names_total : IsTotalOrder name_cmp
names_total =
    then_total (on_total (λ (k : RequestName). k.by) nat_list_cmp_total) (on_total (λ (k : RequestName). k.no) nat_cmp_total)

pub same_from_equal : (a b : RequestName) → name_cmp a b ≡ Equal → a ≡ b
same_from_equal a b h =
    let pairs : ◌≡◌ {A = List ℕ × ℕ} (a.by, a.no) (b.by, b.no) =
    exact_pairs (slice_cmp nat_cmp) nat_cmp exact_bytes exact_unsigned (a.by, a.no) (b.by, b.no) h in
    ap (λ (p : List ℕ × ℕ). record { by = p.0; no = p.1 }) pairs

pub equal_itself : (a : RequestName) → name_cmp a a ≡ Equal
equal_itself a =
    ap (λ (o : Ordering). ordering_then o (nat_cmp a.no a.no)) (tied_itself nat_list_cmp_total a.by) ∙ tied_itself nat_cmp_total a.no

pub equal_from_test : (o : Ordering) → is_eq o ≡ true → o ≡ Equal
equal_from_test Less h = absurd cc
equal_from_test Equal h = refl
equal_from_test Greater h = absurd cc

pub same_cases : (a b : RequestName) → (a ≡ b) ⊎ (a ≡ b → ⊥)
same_cases a b =
    elim (cases_Bool (is_eq (name_cmp a b))) as (λ _. (a ≡ b) ⊎ (a ≡ b → ⊥)) [
      | inl equal ↦ inl (same_from_equal a b (equal_from_test (name_cmp a b) equal))
      | inr other ↦ inr (λ same.
          let P : RequestName → Type 0 = λ x. is_eq (name_cmp a x) ≡ true in
          let tested = subst P same (ap is_eq (equal_itself a)) in
          let wrong : false ≡ true = sym other ∙ tested in
          cc)
    ]

-- ---- one name is set, and the others stay

pub record SetsAt {X : Type 0} (old new : BTreeMap RequestName X) (name : RequestName) (x : X) : Type 0 where
  pub here : at_name new name ≡ Some x
  pub elsewhere : (other : RequestName) → (name ≡ other → ⊥) → at_name new other ≡ at_name old other

-- one name is set or taken out, and at the others there is what there was
pub others_from : {X : Type 0} (old new : BTreeMap RequestName X) (name : RequestName) (w : Option X)
    → Updates name_cmp old new name w → (other : RequestName) → (name ≡ other → ⊥) → at_name new other ≡ at_name old other
others_from {X} old new name w updates other differ =
    updates.2 other
    (false_from_ne_true (is_at (name_cmp name) other) (λ equal. differ (same_from_equal name other (equal_from_test (name_cmp name other) equal))))

pub sets_from : {X : Type 0} (old new : BTreeMap RequestName X) (name : RequestName) (x : X) → Updates name_cmp old new name (Some x) → SetsAt old new name x
sets_from {X} old new name x updates = record { here = updates.1; elsewhere = others_from old new name (Some x) updates }

pub at_none : {X : Type 0} (m : BTreeMap RequestName X) (name : RequestName) → m.entries ≡ [] → at_name m name ≡ None
at_none {X} m name empty =
    ap (λ (es : List (RequestName × X)). lookup (is_at (name_cmp name)) es) empty

-- a map with the same entries has the same at each name
pub at_same : {X : Type 0} (m n : BTreeMap RequestName X) (name : RequestName) → n.entries ≡ m.entries → at_name n name ≡ at_name m name
at_same {X} m n name same = ap (λ (es : List (RequestName × X)). lookup (is_at (name_cmp name)) es) same

-- ---- as lists

pub value_from_entry : {X : Type 0} (es : List (RequestName × X)) (x : X) → Contains (values_of es) x → (e : RequestName × X) × Contains es e × (e.1 ≡ x)
value_from_entry [] x m = absurd (no_member x m)
value_from_entry {X} (e ∷ es) x m =
    elim (Contains-cases e.1 (values_of es) x m) as (λ _. (f : RequestName × X) × Contains (e ∷ es) f × (f.1 ≡ x)) [
      | inl same ↦ (e, Contains-head e es, same)
      | inr later ↦ let found = value_from_entry es x later in (found.0, Contains-behind e es found.0 found.1, found.2)
    ]

pub entry_value : {X : Type 0} (es : List (RequestName × X)) (e : RequestName × X) → Contains es e → Contains (values_of es) e.1
entry_value [] e m = absurd (no_member e m)
entry_value {X} (f ∷ es) e m =
    elim (Contains-cases f es e m) as (λ _. Contains (values_of (f ∷ es)) e.1) [
      | inl same ↦ subst (λ (x : RequestName × X). Contains (values_of (f ∷ es)) x.1) same (Contains-head f.1 (values_of es))
      | inr later ↦ Contains-behind f.1 (values_of es) e.1 (entry_value es e later)
    ]

module _ {X : Type 0} (m : BTreeMap RequestName X) where
  -- the map has an entry at its name
  pub at_entry : IsOrdered name_cmp m → (e : RequestName × X) → Contains m.entries e → at_name m e.0 ≡ Some e.1
  at_entry ordered e among =
      let place = get_from_Contains m.entries e among in
      btree_map_get_place names_total m place.0 e.0 e.1 ordered place.1

  pub value_at : (name : RequestName) (x : X) → at_name m name ≡ Some x → Contains (values m) x
  value_at name x there =
      let place = place_from_lookup (is_at (name_cmp name)) m.entries x there in
      entry_value m.entries (place.1, x) (Contains-from_get m.entries place.0 (place.1, x) place.2)
