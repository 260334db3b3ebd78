use Rattle.std.proofs.Common.{sym, subst}
use Rattle.sqlite_wal.specs.Files.{image_at}
use Rattle.sqlite.specs.Files.{file_state}
use Rattle.store_tables.specs.SqliteStates.{IsUp}
use Rattle.store_restart.specs.Stopped.{ShowsFound}
use Rattle.store_restart.proofs.reopening.keeper_at.Goals as goal

-- a connection that was opened shows what it found
pub returns-in-Ok : goal.returns-in-Ok
returns-in-Ok g c = subst (λ h. IsUp (file_state h) → ShowsFound (image_at g.S.Start) (file_state h)) (sym c.that_gathers.ensures.same) (λ up.
    let opened = c.in-Ok.ensures.opened up.clean in
    record { finds = c.in-Ok.ensures.found up.clean; settled = opened.0.clean; sound = (opened.1 up.is_open).0 })
