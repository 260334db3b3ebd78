use Rattle.desk.proofs.KnownLemmas.{known_still}
use Rattle.desk.proofs.loading.listed.Goals as goal

pub returns-clause-known : goal.returns-clause-known
returns-clause-known g c =
    let K = g.K.Keeper in
    let old = c.args.keeper.now in
    let new = c.messages.new.self in
    known_still c.args._roster.now.says (K.is_up old) (K.is_up new) (K.holds old) (K.holds new) c.args._known.now c.requires.known
    c.messages.ensures.served.was_up
    (λ up. g.met.K.Keeper.stays_set old new (c.messages.ensures.same up) (c.requires.desk (c.messages.ensures.served.was_up up)))
