use Rattle.desk_args.proofs.command.review.Goals as goal

pub returns : goal.returns
returns c = c.on_desk.ensures
