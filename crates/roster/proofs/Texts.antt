-- A roster, and the same in texts.
use Rattle.std.proofs.Common.{◌≡◌, ◌≤◌, ℕ, ◌∙◌, ◌&&◌, true, List, [], ◌∷◌, Some, map, length, nat_le, refl, sym, ap, ap₂}
use Rattle.std.specs.Prelude.{All}
use Rattle.std.specs.List.{list_all}
use Rattle.std.proofs.lemmas.List.{length-map}
use Rattle.std.proofs.lemmas.List.Elements.{All-map, All-weaker}
use Rattle.std.proofs.lemmas.List.Folds.{list_all-map}
use Rattle.std.proofs.lemmas.Bool.{and_parts, leb-true}
use Rattle.sudo_words.specs.Command.{IsLawful, cmnd_text}
use Rattle.sudo_words.specs.declared.cmnd.Cmnd.{Cmnd}
use Rattle.roster.specs.Faults.{IsRosterText}
use Rattle.roster.specs.Fields.{CeilingFields, RosterFields, entry_in_texts, in_texts}
use Rattle.roster.specs.Rules.{IsCmndText, IsNamedCeiling, GoodNames, good_names, are_known, has_self_conflict, in_range, is_ranged}
use Rattle.roster.specs.Rules.{is_between, is_known_ceiling, is_known_pair, is_known_person, has_counts, has_ceiling_counts}
use Rattle.roster.specs.private.Stages.{IsDraftOf, KeepsRules}

commands_in_texts : (cs : List Cmnd) → All IsLawful cs → All IsCmndText (map cmnd_text cs)
commands_in_texts cs a = All-map IsCmndText cmnd_text cs (All-weaker IsLawful (λ c. IsCmndText (cmnd_text c)) (λ c l. (c, l, refl)) cs a)

named_in_texts : (c : List ℕ × CeilingFields Cmnd) → IsNamedCeiling IsLawful c → IsNamedCeiling IsCmndText (entry_in_texts c)
named_in_texts c n = record {
  label = n.label;
  ask = n.ask;
  approve = n.approve;
  hosts = n.hosts;
  runas = n.runas;
  commands = commands_in_texts c.1.commands n.commands;
}

pub good_in_texts : (f : RosterFields Cmnd) → GoodNames IsLawful f → GoodNames IsCmndText (in_texts f)
unfolding good_names
good_in_texts f n = record {
  names = n.names;
  ceilings = All-map (IsNamedCeiling IsCmndText) entry_in_texts f.ceilings
      (All-weaker (IsNamedCeiling IsLawful) (λ c. IsNamedCeiling IsCmndText (entry_in_texts c)) named_in_texts f.ceilings n.ceilings);
}

pub known_in_texts : (f : RosterFields Cmnd) → are_known (in_texts f) ≡ are_known f
unfolding are_known
known_in_texts f =
    ap (λ b. list_all (is_known_pair f.duties) f.conflicts && list_all (is_known_person f.duties) f.people && b)
    (list_all-map (is_known_ceiling f.duties f.hosts) entry_in_texts f.ceilings)

pub known_of_draft : (f : RosterFields Cmnd) (t : RosterFields (List ℕ)) → in_texts f ≡ t → are_known t ≡ are_known f
known_of_draft f t same = ap are_known (sym same) ∙ known_in_texts f

pub apart_in_texts : (f : RosterFields Cmnd) → has_self_conflict (in_texts f) ≡ has_self_conflict f
unfolding has_self_conflict
apart_in_texts f = refl

ranged_in_texts : (cs : List (List ℕ × CeilingFields Cmnd)) → list_all is_ranged (map entry_in_texts cs) ≡ list_all is_ranged cs
ranged_in_texts [] = refl
ranged_in_texts (c ∷ cs) =
    let one : is_ranged (entry_in_texts c) ≡ is_ranged c =
    ap (λ n. is_between 1 3 c.1.needs && is_between 1 256 (length c.1.hosts) && is_between 1 256 (length c.1.runas)
    && is_between 1 256 n && is_between 1 2_592_000 c.1.longest) (length-map c.1.commands cmnd_text) in
    ap₂ (λ a b. a && b) one (ranged_in_texts cs)

pub range_in_texts : (text : List ℕ) (f : RosterFields Cmnd) → in_range text (in_texts f) ≡ in_range text f
unfolding in_range
range_in_texts text f =
    ap₂ (λ n b. nat_le (length text) 1_048_576 && has_counts f && (nat_le n 1024 && b)) (length-map f.ceilings entry_in_texts) (ranged_in_texts f.ceilings)

-- a roster is what its text says in texts
pub roster_text : (text : List ℕ) (t : RosterFields (List ℕ)) (f : RosterFields Cmnd)
    → IsDraftOf text t → GoodNames IsLawful f → in_texts f ≡ t → KeepsRules text t → IsRosterText text f
roster_text text t f draft names same rules = record {
  document = draft.document;
  toml = draft.toml;
  keys = draft.keys;
  types = draft.types ∙ ap Some (sym same);
  names = names;
  known = sym (known_in_texts f) ∙ ap are_known same ∙ rules.known;
  apart = sym (apart_in_texts f) ∙ ap has_self_conflict same ∙ rules.apart;
  range = sym (range_in_texts text f) ∙ ap (in_range text) same ∙ rules.range;
}

-- a roster has a relay
pub some_relay : (text : List ℕ) (f : RosterFields Cmnd) → in_range text f ≡ true → 1 ≤ length f.relays
unfolding in_range
some_relay text f e =
    let all = and_parts (nat_le (length text) 1_048_576 && has_counts f) (has_ceiling_counts f) e in
    let counts = and_parts (nat_le (length text) 1_048_576) (has_counts f) all.0 in
    let five = and_parts _ _ counts.1 in
    let four = and_parts _ _ five.0 in
    let three = and_parts _ _ four.0 in
    let two = and_parts _ _ three.0 in
    let relays = and_parts _ _ two.0 in
    leb-true 1 (length f.relays) (and_parts (nat_le 1 (length f.relays)) (nat_le (length f.relays) 64) relays.0).0
