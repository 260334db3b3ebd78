use Rattle.std.proofs.Common.{inl, subst}
use Rattle.desk.specs.private.Known.{IsKnownOfUp}
use Rattle.desk.proofs.KnownLemmas.{lists_still}
use Rattle.desk.proofs.loading.known_of.Goals as goal

pub returns-in_ok-gather-in-None-clause-still_known : goal.returns-in_ok-gather-in-None-clause-still_known
returns-in_ok-gather-in-None-clause-still_known g c = λ up.
    let K = g.K.Keeper in
    let old = c.args.keeper.now in
    let new = c.gather.new.self in
    let k = c.in_ok-gather-in-None.ensures.known up in (
      k.0,
      lists_still (K.holds old) (K.holds new) k.0
          (g.met.K.Keeper.stays_set old new (c.gather.ensures.same up) (c.requires.desk (c.gather.ensures.served.was_up up))) k.1,
      (k.2, tt, tt),
    )

pub returns-in-Some-clause-live : goal.returns-in-Some-clause-live
returns-in-Some-clause-live g c =
    let K = g.K.Keeper in
    let k = c.args.keeper.now in
    subst (IsKnownOfUp (K.is_clean k) (K.is_up k)) c.in-Some.is c.requires.live

pub returns-in-Some-clause-leaves : goal.returns-in-Some-clause-leaves
returns-in-Some-clause-leaves g c = λ clean left may. inl may
