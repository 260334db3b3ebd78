use Rattle.desk_args.proofs.command.print.Goals as goal

pub returns : goal.returns
returns c = c.on_desk.ensures
