use Rattle.std.proofs.Common.{◌≡◌, take}
use Rattle.sqlite.specs.Held.{state}
use Rattle.store_tables.proofs.RefillLemmas.{Refilling}
use Rattle.store_tables.proofs.refill.refill_rows.Given as goal

-- the rows are those of the messages that were gone through
abbrev pub invariant-loop-message : goal.invariant-loop-message
invariant-loop-message g l = (l.tx.conn.ghost_name ≡ l.fn.tx.conn.ghost_name)
    × Refilling (take l.message-index l.messages) (state g.S.Store l.fn.tx.conn.now) (state g.S.Store l.tx.conn.now)
