use Rattle.store_opening.proofs.found_in.look.Goals as goal

pub returns-in-Old-clause-damaged : goal.returns-in-Old-clause-damaged
returns-in-Old-clause-damaged g c up stray = absurd (c.look_old.ensures.not_stray stray)
