use Rattle.desk_args.specs.private.Commands.{HasRule}
use Rattle.desk_args.proofs.Building.{one_more}
use Rattle.desk_args.proofs.command.push_several.Goals as goal

pub returns : goal.returns
returns c rules has =
    rw (c.in_ok-push.ensures.items) (one_more HasRule c.args.args.now.items rules c.several.result _ has (c.several.ensures.rule, c.several.ensures.global))
