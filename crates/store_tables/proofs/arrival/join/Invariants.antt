use Rattle.std.proofs.Common.{◌≡◌, take}
use Rattle.sqlite.specs.Held.{state}
use Rattle.store_tables.proofs.RequestLemmas.{Joining}
use Rattle.store_tables.proofs.arrival.join.Given as goal

-- the rows that were gone through are joined
abbrev pub invariant-loop-row : goal.invariant-loop-row
invariant-loop-row g l =
    (l.tx.conn.ghost_name ≡ l.fn.tx.conn.ghost_name) × Joining (take l.row-index l.rows) (state g.S.Store l.fn.tx.conn.now) (state g.S.Store l.tx.conn.now)
