use Rattle.std.proofs.Common.{IfOk, subst}
use Rattle.desk_args.specs.private.Commands.{IsCommand}
use Rattle.desk_args.proofs.Building.{one_more}
use Rattle.desk_args.proofs.command.push_made.Goals as goal

pub returns : goal.returns
returns c apps app are made =
    rw (c.in_ok-push.ensures.items)
    (one_more _ c.args.commands.now.items apps _ app are (subst (λ r. IfOk r (IsCommand app)) c.in_ok-made.was made))
