-- Each text is the text of a roster, or has a least fault.
use Rattle.std.proofs.Common.{◌≡◌, ◌⊎◌, ℕ, true, List, [], ◌∷◌, map, All, Option, Some, None, refl, sym, ap, ap₂, inl, inr}
use Rattle.std.proofs.lemmas.Bool.{cases_Bool}
use Rattle.std.proofs.lemmas.List.Elements.{All-cons, All-head, All-nil, All-tail}
use Rattle.sudo_words.specs.Command.{IsLawful, cmnd_text}
use Rattle.sudo_words.specs.declared.cmnd.Cmnd.{Cmnd}
use Rattle.toml.specs.Data.{Members}
use Rattle.toml.specs.Parse.{parse_document}
use Rattle.roster.specs.Document.{fields_of, has_known_keys}
use Rattle.roster.specs.Faults.{IsLeastFault, IsRosterText}
use Rattle.roster.specs.Fields.{CeilingFields, RosterFields, entry_in_texts, in_texts}
use Rattle.roster.specs.Rules.{GoodNames, IsCmndText, IsNamedCeiling, are_known, good_names, has_self_conflict, in_range}
use Rattle.roster.specs.private.Stages.{IsDraftOf}
use Rattle.roster.specs.declared.fault.RosterFault.{RosterFault}
use Rattle.roster.specs.declared.fault.RosterFault.TheVariants.{NotToml, UnknownKey, WrongType, BadName, UnknownName, SelfConflict, OutOfRange}
use Rattle.roster.proofs.DecidedNames.{names_or_not}
use Rattle.roster.proofs.FaultLemmas.{none_below_one, of_bad_name, of_out_of_range, of_self_conflict, of_unknown_name, of_wrong_type, read_at_all}
use Rattle.roster.proofs.Texts.{roster_text}

-- ---- the roster of a draft with good names

commands_for : (texts : List (List ℕ)) → All IsCmndText texts → (cs : List Cmnd) × All IsLawful cs × (map cmnd_text cs ≡ texts)
commands_for [] a = ([], All-nil IsLawful, refl)
commands_for (t ∷ texts) a =
    let one = All-head IsCmndText t texts a in
    let more = commands_for texts (All-tail IsCmndText t texts a) in
    (one.0 ∷ more.0, All-cons IsLawful one.0 more.0 one.1 more.1, ap₂ (λ (x : List ℕ) (xs : List (List ℕ)). x ∷ xs) (sym one.2) more.2)

ceiling_for : (d : List ℕ × CeilingFields (List ℕ)) → IsNamedCeiling IsCmndText d
    → (c : List ℕ × CeilingFields Cmnd) × IsNamedCeiling IsLawful c × (entry_in_texts c ≡ d)
ceiling_for d n =
    let cs = commands_for d.1.commands n.commands in (
      (d.0, record { ask = d.1.ask; approve = d.1.approve; needs = d.1.needs; hosts = d.1.hosts; runas = d.1.runas; commands = cs.0; longest = d.1.longest }),
      record { label = n.label; ask = n.ask; approve = n.approve; hosts = n.hosts; runas = n.runas; commands = cs.1 },
      ap (λ (texts : List (List ℕ)). (
        d.0,
        record { ask = d.1.ask; approve = d.1.approve; needs = d.1.needs; hosts = d.1.hosts; runas = d.1.runas; commands = texts; longest = d.1.longest },
      )) cs.2,
    )

ceilings_for : (ds : List (List ℕ × CeilingFields (List ℕ))) → All (IsNamedCeiling IsCmndText) ds
    → (cs : List (List ℕ × CeilingFields Cmnd)) × All (IsNamedCeiling IsLawful) cs × (map entry_in_texts cs ≡ ds)
ceilings_for [] a = ([], All-nil (IsNamedCeiling IsLawful), refl)
ceilings_for (d ∷ ds) a =
    let one = ceiling_for d (All-head (IsNamedCeiling IsCmndText) d ds a) in
    let more = ceilings_for ds (All-tail (IsNamedCeiling IsCmndText) d ds a) in (
      one.0 ∷ more.0,
      All-cons (IsNamedCeiling IsLawful) one.0 more.0 one.1 more.1,
      ap₂ (λ (x : List ℕ × CeilingFields (List ℕ)) (xs : List (List ℕ × CeilingFields (List ℕ))). x ∷ xs) one.2 more.2,
    )

roster_for : (t : RosterFields (List ℕ)) → GoodNames IsCmndText t → (f : RosterFields Cmnd) × GoodNames IsLawful f × (in_texts f ≡ t)
unfolding good_names
roster_for t n =
    let cs = ceilings_for t.ceilings n.ceilings in (
      record { relays = t.relays; hosts = t.hosts; duties = t.duties; conflicts = t.conflicts; people = t.people; ceilings = cs.0 },
      record { names = n.names; ceilings = cs.1 },
      ap (λ (ceilings : List (List ℕ × CeilingFields (List ℕ))).
          record { relays = t.relays; hosts = t.hosts; duties = t.duties; conflicts = t.conflicts; people = t.people; ceilings = ceilings }) cs.2,
    )

-- ---- the answer

abbrev pub Answer : List ℕ → Type 0
Answer text = ((f : RosterFields Cmnd) × IsRosterText text f) ⊎ ((fault : RosterFault) × IsLeastFault text fault)

module _ (text : List ℕ) where
  of_names : (t : RosterFields (List ℕ)) → IsDraftOf text t → GoodNames IsCmndText t → Answer text
  of_names t draft good =
      elim (cases_Bool (are_known t)) as (λ _. Answer text) [
        | inr unknown ↦ inr (UnknownName, of_unknown_name text t draft good unknown)
        | inl known ↦
            elim (cases_Bool (has_self_conflict t)) as (λ _. Answer text) [
              | inl itself ↦ inr (SelfConflict, of_self_conflict text t draft good known itself)
              | inr apart ↦
                  elim (cases_Bool (in_range text t)) as (λ _. Answer text) [
                    | inr out ↦ inr (OutOfRange, of_out_of_range text t draft good known apart out)
                    | inl range ↦
                        let roster = roster_for t good in
                        inl (roster.0, roster_text text t roster.0 draft roster.1 roster.2 (record { known = known; apart = apart; range = range }))
                  ]
            ]
      ]

  of_draft : (t : RosterFields (List ℕ)) → IsDraftOf text t → Answer text
  of_draft t draft =
      elim (names_or_not t) as (λ _. Answer text) [
        | inl good ↦ of_names t draft good
        | inr bad ↦ inr (BadName, of_bad_name text t draft bad)
      ]

  of_fields : (d : Members) → parse_document text ≡ Some d → has_known_keys d ≡ true → (o : Option (RosterFields (List ℕ))) → fields_of d ≡ o → Answer text
  of_fields d toml keys None wrong = inr (WrongType, of_wrong_type text d toml keys wrong)
  of_fields d toml keys (Some t) types = of_draft t (record { document = d; toml = toml; keys = keys; types = types })

  of_document : (o : Option Members) → parse_document text ≡ o → Answer text
  of_document None toml = inr (NotToml, (toml, none_below_one text))
  of_document (Some d) toml =
      elim (cases_Bool (has_known_keys d)) as (λ _. Answer text) [
        | inl keys ↦ of_fields d toml keys (fields_of d) refl
        | inr unknown ↦ inr (UnknownKey, ((d, toml, unknown), read_at_all text d toml))
      ]

  pub some_answer : Answer text
  some_answer = of_document (parse_document text) refl
