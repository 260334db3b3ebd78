use Rattle.std.proofs.Common.{◌≡◌, ap, sym, subst}
use Rattle.sqlite.specs.Effect.{Database}
use Rattle.sqlite.specs.Held.{state}
use Rattle.desk_store.proofs.settled.may_show.Goals as goal

-- the last commit is left, and it is what is shown
pub returns : goal.returns
returns g c = λ up.
    let shown = state g.S.Store c.args.conn.now in
    let trees : shown.now.trees ≡ shown.committed.trees = ap (λ (d : Database). d.trees) (c.requires up).settled in
    record {
      left = subst shown.may_leave (sym trees) (g.met.S.Store.stays c.args.conn.now.store up.is_open);
      sound = (c.schema-schema.ensures.live up.is_open).0;
    }
