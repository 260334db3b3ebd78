use Rattle.desk_args.proofs.command.beyond.Goals as goal

pub returns : goal.returns
returns c = c.command_with.ensures
