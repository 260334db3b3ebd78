use Rattle.std.proofs.Common.{subst}
use Rattle.std.specs.Prelude.{Contains, IfOk, map}
use Rattle.sqlite_trees.specs.View.{IsClean}
use Rattle.sqlite_store.specs.FileStore.{view}
use Rattle.sqlite.specs.Files.{file_state}
use Rattle.sqlite.specs.State.{HasCleanDisk}
use Rattle.store_tables.specs.Kept.{HoldsText}
use Rattle.store_tables.specs.SqliteStates.{IsUp}
use Rattle.desk_store.specs.Crash.{MayLeave}
use Rattle.desk.specs.Crash.{IsLeftByDeliveries}
use Rattle.desk.specs.Delivery.{delivery_of}
use Rattle.desk.proofs.RestartLemmas.{of_ok}
use Rattle.store_restart.specs.Reopened.{HoldsAcked, HoldsLeft}
use Rattle.store_restart.specs.Stopped.{LeavesDesk}
use Rattle.store_restart.proofs.ReopenedLemmas.{left_of_same}
use Rattle.store_restart.proofs.crashing.deliver_and_open_after_crash.Goals as goal

-- what the deliveries leave, the store that stopped leaves, and the next opening finds
pub returns : goal.returns
returns g c = λ up same held lists.
    let stopped = c.stop-stopped.result in
    let says = c.args.desk.roster.says in
    let text = c.args.roster.text in
    let old = HoldsText (file_state c.args.desk.keeper.conn).now in
    let ds = map delivery_of c.args.list.now in
    let answers = c.in_ok-answers.answers.items in
    of_ok c.open_after_crash.result
    (λ opened. IfOk opened (λ d. IsUp (file_state d.keeper.conn)
    → IsClean (view stopped) × HoldsLeft (LeavesDesk stopped) text (HoldsText (file_state d.keeper.conn).now)))
    (λ opened. IfOk opened (λ d. IsUp (file_state d.keeper.conn)
    → HoldsAcked says (λ m. Contains held m) ds answers (HoldsText (file_state d.keeper.conn).now)))
    (λ opened holds. of_ok opened
    (λ d. IsUp (file_state d.keeper.conn) → IsClean (view stopped) × HoldsLeft (LeavesDesk stopped) text (HoldsText (file_state d.keeper.conn).now))
    (λ d. IsUp (file_state d.keeper.conn) → HoldsAcked says (λ m. Contains held m) ds answers (HoldsText (file_state d.keeper.conn).now))
    (λ d holds is_up.
    let it = holds is_up in
    let clean = subst (λ k. HasCleanDisk (file_state k.conn)) c.into_keeper.ensures.same (c.stop-stopped.ensures.clean it.0) in
    it.1.deliveries says held ds answers (λ left there. subst (λ t. IsLeftByDeliveries says t (λ m. Contains held m) ds answers left) same
    (left_of_same says c.args.desk.roster.text old (λ m. Contains held m) lists ds answers left
    (c.in_ok-answers.ensures.crash up clean left
    (subst (λ k. MayLeave (file_state k.conn) left) c.into_keeper.ensures.same (c.stop-stopped.ensures.left left there)))))) holds)
    c.open_after_crash.ensures.held
