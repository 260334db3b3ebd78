use Rattle.std.proofs.Common.{◌≡◌, ◌⊎◌}
use Rattle.sqlite_wal.specs.Files.{image_at}
use Rattle.sqlite.specs.Files.{file_state}
use Rattle.grants.specs.Bases.{FitsBase}
use Rattle.store_tables.specs.Kept.{HoldsText}
use Rattle.store_tables.specs.Stored.{content_of}
use Rattle.store_tables.specs.SqliteStates.{IsUp}
use Rattle.store_schema.specs.Shapes.{IsVacant}
use Rattle.store_opening.specs.Opened.{IsKept, IsOldDesk}
use Rattle.desk.specs.Opening.{Opens, Refuses}
use Rattle.desk.specs.Refusals.{IsWant}
use Rattle.desk.specs.declared.refusal.Refusal.TheVariants.{BaseTooLarge}
use Rattle.desk.proofs.RestartLemmas.{of_opened, of_refused, was_up_of}
use Rattle.store_restart.specs.Reopened.{HoldsLeft}
use Rattle.store_restart.specs.Stopped.{LeavesDesk}
use Rattle.store_restart.proofs.FoundLemmas.{shown_is_left}
use Rattle.store_restart.proofs.ReopenedLemmas.{base_left, holds_left}
use Rattle.store_restart.proofs.reopening.open_file_after_stop.Goals as goal

-- what the keeper shows, a crash may have left
pub returns-clause-held : goal.returns-clause-held
returns-clause-held g c = λ may.
    let stopped = c.args.stopped in
    let k = c.in_ok-keeper.keeper in
    let db = (file_state k.conn).now in
    let text = c.args.roster.text in
    of_opened c.open.result
    (λ d. IsUp (file_state d.keeper.conn)
    → Opens (IsVacant db.schema) (IsKept db) (IsOldDesk db) (content_of db).roster text (HoldsText db) (HoldsText (file_state d.keeper.conn).now))
    (λ d. IsUp (file_state d.keeper.conn) → IsUp (file_state k.conn))
    (λ d. IsUp (file_state d.keeper.conn) → HoldsLeft (LeavesDesk stopped) text (HoldsText (file_state d.keeper.conn).now))
    (λ r. IsUp (file_state r.1.conn) → IsUp (file_state k.conn))
    (λ d opens was up.
    holds_left (LeavesDesk stopped) db
    (shown_is_left stopped (image_at g.T.Start) c.requires may (file_state k.conn) (c.in_ok-keeper.ensures (was up))) text
    (HoldsText (file_state d.keeper.conn).now) (opens up)) c.open.ensures.opens (was_up_of _ _ _ _ _ c.open.result c.open.ensures.served)

pub returns-clause-refused : goal.returns-clause-refused
returns-clause-refused g c = λ may some.
    let stopped = c.args.stopped in
    let k = c.in_ok-keeper.keeper in
    let db = (file_state k.conn).now in
    let text = c.args.roster.text in
    let Fits = FitsBase c.args.base in
    of_refused c.open.result
    (λ r. IsUp (file_state r.1.conn)
    → IsWant r.0 ⊎ Refuses Fits (IsVacant db.schema) (IsKept db) (IsOldDesk db) (content_of db).roster text r.0)
    (λ r. IsUp (file_state r.1.conn) → IsUp (file_state k.conn))
    (λ r. IsUp (file_state r.1.conn) → IsWant r.0 ⊎ ((r.0 ≡ BaseTooLarge) × (¬ Fits)))
    (λ d. IsUp (file_state d.keeper.conn) → IsUp (file_state k.conn))
    (λ r refused was up.
    base_left (LeavesDesk stopped) db
    (shown_is_left stopped (image_at g.T.Start) c.requires may (file_state k.conn) (c.in_ok-keeper.ensures (was up))) text
    Fits r.0 some (refused up)) c.open.ensures.refused (was_up_of _ _ _ _ _ c.open.result c.open.ensures.served)
