-- The numbers of a roster's ceilings.
use Rattle.std.proofs.Common.{◌≡◌, ℕ, ◌≤◌, Bool, true, nat_le, length, List, [], ◌∷◌, Option, Some, None, ◌∙◌, sym, subst, inl, inr}
use Rattle.std.specs.List.{list_all}
use Rattle.std.specs.Option.{IfSome, option_map}
use Rattle.std.specs.Str.{bytes_eq}
use Rattle.std.proofs.lemmas.Bool.{cases_Bool, and_parts, cond-true, cond-false, leb-true}
use Rattle.std.proofs.lemmas.Option.{same_Some, none-some}
use Rattle.sudo_words.specs.declared.cmnd.Cmnd.{Cmnd}
use Rattle.roster.specs.Faults.{IsRosterText}
use Rattle.roster.specs.Fields.{CeilingFields, RosterFields}
use Rattle.roster.specs.Relations.{entry_of, ceiling_at}
use Rattle.roster.specs.Rules.{is_between, is_ranged, has_ceiling_counts, in_range}

-- what holds for each entry holds for the one that is found
found_holds : {X : Type 0} (test : List ℕ × X → Bool) (entries : List (List ℕ × X)) (name : List ℕ) (x : X)
    → list_all test entries ≡ true → entry_of entries name ≡ Some x → (e : List ℕ × X) × (test e ≡ true) × (e.1 ≡ x)
found_holds {X = X} test [] name x all found = absurd (none-some x found)
found_holds {X = X} test (e ∷ es) name x all found =
    let parts = and_parts (test e) (list_all test es) all in
    elim (cases_Bool (bytes_eq e.0 name)) as (λ _. (e : List ℕ × X) × (test e ≡ true) × (e.1 ≡ x)) [
      | inl here ↦ (e, parts.0, same_Some e.1 x (sym (cond-true _ (Some e.1) (entry_of es name) here) ∙ found))
      | inr other ↦ found_holds test es name x parts.1 (sym (cond-false _ (Some e.1) (entry_of es name) other) ∙ found)
    ]

ceilings_ranged : (text : List ℕ) (f : RosterFields Cmnd) → IsRosterText text f → list_all is_ranged f.ceilings ≡ true
unfolding in_range
ceilings_ranged text f r =
    let counts : has_ceiling_counts f ≡ true = (and_parts _ _ r.range).1 in
    (and_parts (nat_le (length f.ceilings) 1024) (list_all is_ranged f.ceilings) counts).1

few : (e : List ℕ × CeilingFields Cmnd) → is_ranged e ≡ true → (1 ≤ e.1.needs) × (e.1.needs ≤ 3)
few e ranged =
    let needs : is_between 1 3 e.1.needs ≡ true = (and_parts _ _ (and_parts _ _ (and_parts _ _ (and_parts _ _ ranged).0).0).0).0 in
    let both = and_parts (nat_le 1 e.1.needs) (nat_le e.1.needs 3) needs in
    (leb-true 1 e.1.needs both.0, leb-true e.1.needs 3 both.1)

-- each ceiling of a roster needs one to three people
needs_few : (text : List ℕ) (f : RosterFields Cmnd) (label : List ℕ) (c : CeilingFields Cmnd)
    → IsRosterText text f → ceiling_at f label ≡ Some c → (1 ≤ c.needs) × (c.needs ≤ 3)
needs_few text f label c r found =
    let at = found_holds is_ranged f.ceilings label c (ceilings_ranged text f r) found in
    subst (λ (d : CeilingFields Cmnd). (1 ≤ d.needs) × (d.needs ≤ 3)) at.2 (few at.0 at.1)

-- so does the one that a look-up gives
pub found_few : {X : Type 0} (text : List ℕ) (f : RosterFields Cmnd) (label : List ℕ) (view : X → CeilingFields Cmnd) (o : Option X)
    → IsRosterText text f → option_map view o ≡ ceiling_at f label → IfSome o (λ x. (1 ≤ (view x).needs) × ((view x).needs ≤ 3))
found_few text f label view None r found = tt
found_few text f label view (Some x) r found = needs_few text f label (view x) r (sym found)
