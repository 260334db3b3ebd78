use Rattle.std.proofs.Common.{◌∙◌, ℕ, List, ap, sym, subst}
use Rattle.std.specs.Prelude.{All}
use Rattle.std.specs.List.{list_all}
use Rattle.std.proofs.lemmas.Bool.{true≢false}
use Rattle.sudo_words.specs.Word.{is_host_name, is_label}
use Rattle.roster.specs.Fields.{RosterFields}
use Rattle.roster.specs.Rules.{GoodNames, IsCmndText, IsNamedCeiling, is_named_pair, is_named_person}
use Rattle.roster.proofs.Names.{by_place, in_all_places}
use Rattle.sudo_words.proofs.Exits.{is_err}
use Rattle.roster.proofs.named.content_of.Goals as goal

pub returns-in_err-relays : goal.returns-in_err-relays
returns-in_err-relays c =
    rw (is_err c.from_residual.result c.from_residual.ensures.1) (λ n. let h = c.in_err-relays.ensures n in (
      h.0,
      λ w. true≢false (sym (by_place c.args.draft.now w.names).relays
          ∙ sym (ap (λ (f : RosterFields (List ℕ)). list_all is_label f.relays) c.draft.view_is) ∙ sym (ap (list_all is_label) c.as_slice.ensures) ∙ h.1),
    ))

pub returns-in_err-hosts : goal.returns-in_err-hosts
returns-in_err-hosts c =
    rw (is_err c.from_residual-in_err-hosts.result c.from_residual-in_err-hosts.ensures.1) (λ n. let h = c.in_err-hosts.ensures n in (
      h.0,
      λ w. true≢false (sym (by_place c.args.draft.now w.names).hosts ∙ sym (ap (λ (f : RosterFields (List ℕ)). list_all is_host_name f.hosts) c.draft.view_is)
          ∙ sym (ap (list_all is_host_name) c.as_slice-2.ensures) ∙ h.1),
    ))

pub returns-in_err-duties : goal.returns-in_err-duties
returns-in_err-duties c =
    rw (is_err c.from_residual-in_err-duties.result c.from_residual-in_err-duties.ensures.1) (λ n. let h = c.in_err-duties.ensures n in (
      h.0,
      λ w. true≢false (sym (by_place c.args.draft.now w.names).duties
          ∙ sym (ap (λ (f : RosterFields (List ℕ)). list_all is_label f.duties) c.draft.view_is) ∙ sym (ap (list_all is_label) c.as_slice-3.ensures) ∙ h.1),
    ))

pub returns-in_err-people : goal.returns-in_err-people
returns-in_err-people c =
    rw (is_err c.from_residual-in_err-people.result c.from_residual-in_err-people.ensures.1) (λ n. let h = c.in_err-people.ensures n in (
      h.0,
      λ w. true≢false (sym (by_place c.args.draft.now w.names).people ∙ sym (ap (λ (f : RosterFields (List ℕ)). list_all is_named_person f.people)
          c.draft.view_is) ∙ sym (ap (list_all is_named_person) c.as_slice-4.ensures) ∙ h.1),
    ))

pub returns-in_err-conflicts : goal.returns-in_err-conflicts
returns-in_err-conflicts c =
    rw (is_err c.from_residual-in_err-conflicts.result c.from_residual-in_err-conflicts.ensures.1) (λ n. let h = c.in_err-conflicts.ensures n in (
      h.0,
      λ w. true≢false (sym (by_place c.args.draft.now w.names).conflicts ∙ sym (ap (λ (f : RosterFields (List ℕ)). list_all is_named_pair f.conflicts)
          c.draft.view_is) ∙ sym (ap (list_all is_named_pair) c.as_slice-5.ensures) ∙ h.1),
    ))

pub returns-in_err-ceilings : goal.returns-in_err-ceilings
returns-in_err-ceilings c =
    rw (is_err c.from_residual-in_err-ceilings.result c.from_residual-in_err-ceilings.ensures.1) (λ n. let h = c.in_err-ceilings.ensures n in (
      h.0,
      λ w. h.1 (rw c.as_slice-6.ensures (subst (λ (f : RosterFields (List ℕ)). All (IsNamedCeiling IsCmndText) f.ceilings) (sym c.draft.view_is) w.ceilings)),
    ))

pub returns : goal.returns
returns c =
    let relays = c.in_ok-relays.ensures in
    let hosts = c.in_ok-hosts.ensures in
    let duties = c.in_ok-duties.ensures in
    let people = c.in_ok-people.ensures in
    let conflicts = c.in_ok-conflicts.ensures in
    let ceilings = c.in_ok-ceilings.ensures in (
      subst (GoodNames IsCmndText) c.draft.view_is (record {
        names = in_all_places _ (record {
          relays = rw c.as_slice.ensures at relays.0;
          hosts = rw c.as_slice-2.ensures at hosts.0;
          duties = rw c.as_slice-3.ensures at duties.0;
          conflicts = rw c.as_slice-5.ensures at conflicts.0;
          people = rw c.as_slice-4.ensures at people.0;
        });
        ceilings = rw c.as_slice-6.ensures at ceilings.0;
      }),
      (
        record {
          names = in_all_places _ (record {
            relays = ap (list_all is_label) relays.1 ∙ relays.0;
            hosts = ap (list_all is_host_name) hosts.1 ∙ hosts.0;
            duties = ap (list_all is_label) duties.1 ∙ duties.0;
            conflicts = ap (list_all is_named_pair) conflicts.1 ∙ conflicts.0;
            people = ap (list_all is_named_person) people.1 ∙ people.0;
          });
          ceilings = ceilings.1.0;
        },
        (λ i. record {
          relays = (relays.1 ∙ c.as_slice.ensures) i;
          hosts = (hosts.1 ∙ c.as_slice-2.ensures) i;
          duties = (duties.1 ∙ c.as_slice-3.ensures) i;
          conflicts = (conflicts.1 ∙ c.as_slice-5.ensures) i;
          people = (people.1 ∙ c.as_slice-4.ensures) i;
          ceilings = (ceilings.1.1 ∙ c.as_slice-6.ensures) i;
        }) ∙ c.draft.view_is,
      ),
    )
