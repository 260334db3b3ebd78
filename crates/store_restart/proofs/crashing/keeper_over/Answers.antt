use Rattle.std.proofs.Common.{sym, subst}
use Rattle.sqlite_wal.specs.Reads.{AreClean}
use Rattle.sqlite.specs.Files.{file_state, image_of}
use Rattle.store_tables.specs.SqliteStates.{IsUp}
use Rattle.store_restart.specs.Stopped.{ShowsFound}
use Rattle.store_restart.proofs.crashing.keeper_over.Goals as goal

-- a connection that was opened shows what it found
pub returns-in-Ok : goal.returns-in-Ok
returns-in-Ok g c =
    let files = c.args.files in
    subst (λ h. IsUp (file_state h) → AreClean g.D.Disk files.log files.db × ShowsFound (image_of g.D.Disk files) (file_state h))
    (sym c.that_gathers.ensures.same) (λ up.
    let opened = c.in-Ok.ensures.opened up.clean in
    let it = c.in-Ok.ensures.found up.clean in
    (it.honest, record { finds = record { holds = it.holds; reads = it.reads }; settled = opened.0.clean; sound = (opened.1 up.is_open).0 }))
