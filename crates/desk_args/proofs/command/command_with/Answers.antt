use Rattle.std.proofs.Common.{[], rules}
use Rattle.desk_args.proofs.command.command_with.Goals as goal

pub returns : goal.returns
returns c = c.command_of.ensures _ (c.in_ok-push_options.ensures _ (c.in_ok-push_wanted.ensures [] (search rules)))
