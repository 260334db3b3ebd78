use Rattle.desk_commands.proofs.OpenedLemmas.{opened}
use Rattle.desk_commands.proofs.LeavingLemmas.{was_opened}
use Rattle.desk_commands.proofs.opening.open_over.Goals as goal

pub returns-in-Ok-open-clause-opens : goal.returns-in-Ok-open-clause-opens
returns-in-Ok-open-clause-opens g c up =
    let K = g.K.Keeper in
    let k = c.args.keeper in
    opened (K.is_empty k) (K.is_desk k) (K.is_old k) (K.roster k) c.in-Ok.roster.text
    (K.holds k) (K.holds c.in-Ok-open.desk.keeper) (c.in-Ok-open.ensures.opens up)

pub returns-in-Ok-open-clause-was : goal.returns-in-Ok-open-clause-was
returns-in-Ok-open-clause-was g c up =
    let K = g.K.Keeper in
    let k = c.args.keeper in
    was_opened (K.is_empty k) (K.is_desk k) (K.is_old k) (K.roster k) c.in-Ok.roster.text c.args.roster.now (K.holds k) (K.holds c.in-Ok-open.desk.keeper)
    c.in-Ok.ensures.roster.1 (c.in-Ok-open.ensures.opens up)
