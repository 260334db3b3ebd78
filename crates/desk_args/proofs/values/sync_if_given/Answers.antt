use Rattle.std.proofs.Common.{◌≡◌, ◌∙◌, Option, None, Some, inl, refl, subst, sym}
use Rattle.clap.specs.Words.{Text, found_of, rows_of}
use Rattle.desk_args.specs.CommandLine.{SaysSync}
use Rattle.desk_args.specs.declared.task.Sync.{Sync}
use Rattle.desk_args.proofs.Options.{no_sync}
use Rattle.desk_args.proofs.Rows.{first_rows}
use Rattle.desk_args.proofs.values.sync_if_given.Goals as goal

pub returns-in-None-clause-found : goal.returns-in-None-clause-found
returns-in-None-clause-found c = inl (first_rows c.args.matches.now c.args.id.now ∙ sym c.in-None.ensures)

pub returns-in-None-clause-only : goal.returns-in-None-clause-only
returns-in-None-clause-only c =
    no_sync c.args.id.now (rows_of (found_of c.args.matches.now)) (first_rows c.args.matches.now c.args.id.now ∙ sym c.in-None.ensures)

pub returns-in-Some-sync_of-clause-found : goal.returns-in-Some-sync_of-clause-found
returns-in-Some-sync_of-clause-found c =
    let is = first_rows c.args.matches.now c.args.id.now ∙ sym c.in-Some.ensures in
    subst (λ (given : Option Text). SaysSync given c.in-Some-sync_of.sync) (sym is) c.in-Some-sync_of.ensures.found

pub returns-in-Some-sync_of-clause-only : goal.returns-in-Some-sync_of-clause-only
returns-in-Some-sync_of-clause-only c = λ s has.
    let is = first_rows c.args.matches.now c.args.id.now ∙ sym c.in-Some.ensures in
    let both : ◌≡◌ {A = Option Sync} (Some c.in-Some-sync_of.sync) (Some s) =
    c.in-Some-sync_of.ensures.only s (subst (λ (given : Option Text). SaysSync given s) is has) in
    cc

pub returns-in-None-sync_of-clause-only : goal.returns-in-None-sync_of-clause-only
returns-in-None-sync_of-clause-only c = λ s has.
    let is = first_rows c.args.matches.now c.args.id.now ∙ sym c.in-Some.ensures in
    let wrong : ◌≡◌ {A = Option Sync} None (Some s) = c.in-None-sync_of.ensures.only s (subst (λ (given : Option Text). SaysSync given s) is has) in
    cc

pub returns-in-None-sync_of-clause-word : goal.returns-in-None-sync_of-clause-word
returns-in-None-sync_of-clause-word c = (
  refl,
  record {
    text = c.in-Some.text.now;
    value = first_rows c.args.matches.now c.args.id.now ∙ sym c.in-Some.ensures;
    bad = λ s says. let wrong : ◌≡◌ {A = Option Sync} None (Some s) = c.in-None-sync_of.ensures.only s says in cc;
  },
)
