use Rattle.std.proofs.Common.{[], rules}
use Rattle.desk_args.proofs.command.decide.Goals as goal

pub returns : goal.returns
returns c = c.command_of.ensures _ (c.in_ok-push_several.ensures _ (c.in_ok-push_wanted.ensures [] (search rules)))
