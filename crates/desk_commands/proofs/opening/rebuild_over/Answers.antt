use Rattle.desk_commands.proofs.OpenedLemmas.{rebuilt}
use Rattle.desk_commands.proofs.opening.rebuild_over.Goals as goal

pub returns-in-Ok-rebuild-clause-keeps : goal.returns-in-Ok-rebuild-clause-keeps
returns-in-Ok-rebuild-clause-keeps g c up =
    let K = g.K.Keeper in
    let k = c.args.keeper in
    rebuilt (K.is_empty k) (K.is_desk k) (K.is_old k) (K.holds k) (K.holds c.in-Ok-rebuild.desk.keeper) (c.in-Ok-rebuild.ensures.keeps up)
