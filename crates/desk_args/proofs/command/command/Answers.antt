use Rattle.std.proofs.Common.{[], ap, rules, true}
use Rattle.std.proofs.lemmas.Result.{IfOk-weaker}
use Rattle.clap.specs.Words.{App}
use Rattle.desk_args.specs.CommandLine as line
use Rattle.desk_args.specs.private.Commands.{IsCommand}
use Rattle.desk_args.proofs.Building.{commands_added}
use Rattle.desk_args.proofs.command.command.Goals as goal

pub returns : goal.returns
returns c =
    let policies = c.in_ok-push_on_policies.ensures [] (search rules) in
    let all = c.in_ok-push_on_desks.ensures _ policies in
    let begun : IsCommand line.program c.subcommand_required.result = (
      rw (c.subcommand_required.ensures, c.after_help.ensures, c.version.ensures, c.about.ensures)
          (ap (λ (a : App). record a { top = record a.top { subcommand_required = true; has_version = true } }) c.new.ensures.app),
      rw (c.subcommand_required.ensures, c.after_help.ensures, c.version.ensures, c.about.ensures) c.new.ensures.local,
    ) in
    IfOk-weaker c.subcommands.result _ _
    (λ after adds. commands_added c.subcommand_required.result after line.program _ _ adds all begun)
    c.subcommands.ensures
