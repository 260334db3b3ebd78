use Rattle.std.proofs.lemmas.Result.{IfOk-weaker}
use Rattle.desk_args.proofs.Building.{rules_added}
use Rattle.desk_args.proofs.command.command_of.Goals as goal

pub returns : goal.returns
returns c rules has =
    IfOk-weaker c.args-2.result _ _
    (λ after adds.
    rules_added c.after_help.result after _ c.args.args.items rules adds has
    (rw (c.after_help.ensures, c.about.ensures) c.new.ensures.app, rw (c.after_help.ensures, c.about.ensures) c.new.ensures.local))
    c.args-2.ensures
