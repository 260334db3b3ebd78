use Rattle.std.proofs.Common.{◌≡◌, ap, sym, ◌∙◌}
use Rattle.sqlite.specs.Effect.{Database}
use Rattle.sqlite.specs.Held.{state}
use Rattle.desk_store.proofs.OneDesk.{again}
use Rattle.desk_store.proofs.settled.settles.Goals as goal

-- the last commit alone is left, and it is what is shown
pub returns : goal.returns
returns g c = λ up db may.
    let shown = state g.S.Store c.args.conn.now in
    let rest = c.requires up in
    let trees : db.trees ≡ shown.now.trees =
    g.met.S.Store.settled c.args.conn.now.store db.trees up.is_open may.left ∙ ap (λ (d : Database). d.trees) (sym rest.settled) in
    again shown.now db (c.schema-schema.ensures.live up.is_open).0 may.sound trees
