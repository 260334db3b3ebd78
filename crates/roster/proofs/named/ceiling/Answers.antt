use Rattle.std.proofs.Common.{◌∙◌, ℕ, List, ◌&&◌, ap, ap₂, sym, subst}
use Rattle.std.specs.Prelude.{All}
use Rattle.std.specs.List.{list_all}
use Rattle.std.proofs.lemmas.Bool.{and_parts, true≢false}
use Rattle.sudo_words.specs.Word.{is_host_name, is_label, is_name}
use Rattle.roster.specs.Fields.{CeilingFields}
use Rattle.roster.specs.Rules.{IsCmndText, IsNamedCeiling, is_named_pair}
use Rattle.sudo_words.proofs.Exits.{is_err}
use Rattle.roster.proofs.named.ceiling.Goals as goal

abbrev Entry : Type 0
Entry = List ℕ × CeilingFields (List ℕ)

pub returns-in_err-hosts : goal.returns-in_err-hosts
returns-in_err-hosts c =
    rw (is_err c.from_residual-in_err-hosts.result c.from_residual-in_err-hosts.ensures.1) (λ n. let h = c.in_err-hosts.ensures n in (
      h.0,
      λ w. true≢false
          (sym w.hosts ∙ sym (ap (λ (e : Entry). list_all is_host_name e.1.hosts) c.draft.view_is) ∙ sym (ap (list_all is_host_name) c.as_slice.ensures) ∙ h.1),
    ))

pub returns-in_err-runas : goal.returns-in_err-runas
returns-in_err-runas c =
    rw (is_err c.from_residual-in_err-runas.result c.from_residual-in_err-runas.ensures.1) (λ n. let h = c.in_err-runas.ensures n in (
      h.0,
      λ w. true≢false
          (sym w.runas ∙ sym (ap (λ (e : Entry). list_all is_name e.1.runas) c.draft.view_is) ∙ sym (ap (list_all is_name) c.as_slice-2.ensures) ∙ h.1),
    ))

pub returns-in_err-ask : goal.returns-in_err-ask
returns-in_err-ask c =
    rw (is_err c.from_residual-in_err-ask.result c.from_residual-in_err-ask.ensures.1) (λ n. let h = c.in_err-ask.ensures n in (
      h.0,
      λ w. true≢false (sym (ap₂ (λ a b. a && b) w.ask w.approve) ∙ sym (ap (λ (e : Entry). is_named_pair (e.1.ask, e.1.approve)) c.draft.view_is) ∙ h.1),
    ))

pub returns-in_err-commands : goal.returns-in_err-commands
returns-in_err-commands c =
    rw (is_err c.from_residual-in_err-commands.result c.from_residual-in_err-commands.ensures.1) (λ n. let h = c.in_err-commands.ensures n in
    (h.0, λ w. h.1 (rw c.as_slice-3.ensures (subst (λ (e : Entry). All IsCmndText e.1.commands) (sym c.draft.view_is) w.commands))))

pub returns : goal.returns
returns c =
    let label = c.in_ok-label.ensures in
    let pair = c.in_ok-ask.ensures in
    let named = and_parts _ _ pair.0 in
    let hosts = c.in_ok-hosts.ensures in
    let runas = c.in_ok-runas.ensures in
    let commands = c.in_ok-commands.ensures in (
      subst (IsNamedCeiling IsCmndText) c.draft.view_is (record {
        label = label.0;
        ask = named.0;
        approve = named.1;
        hosts = rw c.as_slice.ensures at hosts.0;
        runas = rw c.as_slice-2.ensures at runas.0;
        commands = rw c.as_slice-3.ensures at commands.0;
      }),
      (
        record {
          label = ap is_label label.1 ∙ label.0;
          ask = ap (λ (p : List ℕ × List ℕ). is_label p.0) pair.1 ∙ named.0;
          approve = ap (λ (p : List ℕ × List ℕ). is_label p.1) pair.1 ∙ named.1;
          hosts = ap (list_all is_host_name) hosts.1 ∙ hosts.0;
          runas = ap (list_all is_name) runas.1 ∙ runas.0;
          commands = commands.1.0;
        },
        (λ i. (
          label.1 i,
          record {
            ask = (pair.1 i).0;
            approve = (pair.1 i).1;
            needs = c.draft.inside.0.1.0.needs;
            hosts = (hosts.1 ∙ c.as_slice.ensures) i;
            runas = (runas.1 ∙ c.as_slice-2.ensures) i;
            commands = (commands.1.1 ∙ c.as_slice-3.ensures) i;
            longest = c.draft.inside.0.1.0.longest;
          },
        )) ∙ c.draft.view_is,
      ),
    )
