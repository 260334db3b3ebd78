use Rattle.std.proofs.Common.{sym, subst}
use Rattle.std.specs.Prelude.{List}
use Rattle.sqlite.specs.Held.{state}
use Rattle.messages.specs.declared.message.Message.{Message}
use Rattle.store_tables.specs.Kept.{HoldsText}
use Rattle.store_tables.specs.Sets.{Lists}
use Rattle.desk_store.proofs.EachOnce.{lists_same}
use Rattle.desk_store.proofs.ReplacingLemmas.{nothing_came, nothing_done, older_becomes, older_beside, older_survives}
use Rattle.desk_store.proofs.replacing.replace_older.Goals as goal

pub migrate-requires-clause-listed : goal.migrate-requires-clause-listed
migrate-requires-clause-listed g c up =
    let db = (state g.S.Store c.args.conn.now).now in
    subst (λ (l : List Message). Lists (HoldsText db) l) (sym c.as_slice-2.ensures.value) (lists_same (HoldsText db)
    c.args.contents.now.messages.items c.in_ok-messages.messages (c.requires.listed up) (rw c.as_slice.ensures.value at c.in_ok-messages.ensures))

pub returns-then-not-is_autocommit : goal.returns-then-not-is_autocommit
returns-then-not-is_autocommit g c = nothing_done c.args.roster.now (state g.S.Store c.args.conn.now) _ c.requires.rests

pub returns-in_err-messages : goal.returns-in_err-messages
returns-in_err-messages g c = nothing_came c.args.roster.now (state g.S.Store c.args.conn.now) c.from_residual.result c.from_residual.ensures.0 c.requires.rests

pub returns : goal.returns
returns g c =
    let old = state g.S.Store c.args.conn.now in
    let new = state g.S.Store c.migrate.new.conn in
    record {
      rests = c.migrate.ensures.rests;
      was_up = c.migrate.ensures.was_up;
      was_clean = c.migrate.ensures.was_clean;
      up = c.migrate.ensures.up;
      becomes = λ up. older_becomes c.args.roster.now old new c.migrate.result (c.migrate.ensures.kept up) (c.migrate.ensures.migrated up);
      beside = λ up. older_beside c.args.roster.now old new c.migrate.result (c.requires.desk (c.migrate.ensures.was_up up))
          (c.migrate.ensures.kept up) (c.migrate.ensures.grown up) (c.migrate.ensures.others up);
      unchanged = c.migrate.ensures.unchanged;
      survives = older_survives c.args.roster.now old new c.migrate.result c.migrate.ensures.survives;
    }
