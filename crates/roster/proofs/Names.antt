-- The names of a roster, list by list.
use Rattle.std.proofs.Common.{◌≡◌, Bool, true, ◌&&◌, ap₂}
use Rattle.std.specs.List.{list_all}
use Rattle.std.proofs.lemmas.Bool.{and_parts}
use Rattle.sudo_words.specs.Word.{is_host_name, is_label}
use Rattle.roster.specs.Fields.{RosterFields}
use Rattle.roster.specs.Rules.{good_names, is_named_pair, is_named_person}

-- each list outside the ceilings has only names of its form
pub record AreNames {C : Type 0} (f : RosterFields C) : Type 0 where
  pub relays : list_all is_label f.relays ≡ true
  pub hosts : list_all is_host_name f.hosts ≡ true
  pub duties : list_all is_label f.duties ≡ true
  pub conflicts : list_all is_named_pair f.conflicts ≡ true
  pub people : list_all is_named_person f.people ≡ true

pub by_place : {C : Type 0} (f : RosterFields C) → good_names f ≡ true → AreNames f
unfolding good_names
by_place f good =
    let four = and_parts _ _ good in
    let three = and_parts _ _ four.0 in
    let two = and_parts _ _ three.0 in
    let one = and_parts _ _ two.0 in
    record { relays = one.0; hosts = one.1; duties = two.1; conflicts = three.1; people = four.1 }

both : (a b : Bool) → a ≡ true → b ≡ true → (a && b) ≡ true
both a b x y = ap₂ (λ p q. p && q) x y

pub in_all_places : {C : Type 0} (f : RosterFields C) → AreNames f → good_names f ≡ true
unfolding good_names
in_all_places f are = both _ _ (both _ _ (both _ _ (both _ _ are.relays are.hosts) are.duties) are.conflicts) are.people
