use Rattle.std.proofs.Common.{◌≡◌, ◌++◌, List, sym, subst}
use Rattle.sqlite.specs.Held.{state}
use Rattle.messages.specs.Fields.{VerdictFields}
use Rattle.messages.specs.NameRows.{ShowSet}
use Rattle.messages.specs.declared.name_row.NameRow.{NameRow}
use Rattle.store_tables.specs.Kept.{HoldsText}
use Rattle.store_opening.proofs.CellLemmas.{known_ok, never_stray}
use Rattle.store_opening.proofs.ReadLemmas.{up_ok}
use Rattle.store_opening.proofs.ShowingLemmas.{tells}
use Rattle.store_opening.proofs.shown_set.shown_of.Goals as goal

pub returns-clause-reads : goal.returns-clause-reads
returns-clause-reads g c = c.rows_beside.ensures.reads

pub returns-in_err-rows-clause-reads : goal.returns-in_err-rows-clause-reads
returns-in_err-rows-clause-reads g c = c.rows_beside.ensures.reads

pub returns-clause-up : goal.returns-clause-up
returns-clause-up g c clean = up_ok c.shown_in.result (c.in_ok-rows.ensures.up clean)

pub returns-clause-whole : goal.returns-clause-whole
returns-clause-whole g c up kept =
    let r = c.in_ok-rows.rows in
    let t = tells (state g.S.Store c.args.conn.now).now kept r.names.items r.verdicts.items r.parked.items (c.in_ok-rows.ensures.shows up) in
    never_stray (λ s. (s.names.items ≡ t.names) × (s.verdicts.items ≡ t.counted ++ t.waiting)) c.shown_in.result
    (c.shown_in.ensures t.names t.counted t.waiting t.names_shown t.counted_shown t.waiting_shown)

pub returns-clause-shown : goal.returns-clause-shown
returns-clause-shown g c up kept =
    let db = (state g.S.Store c.args.conn.now).now in
    let r = c.in_ok-rows.rows in
    let t = tells db kept r.names.items r.verdicts.items r.parked.items (c.in_ok-rows.ensures.shows up) in
    known_ok (λ s. (s.names.items ≡ t.names) × (s.verdicts.items ≡ t.counted ++ t.waiting)) (λ s. ShowSet (HoldsText db) s.names.items s.verdicts.items)
    c.shown_in.result (λ s is. subst (λ (ns : List NameRow). ShowSet (HoldsText db) ns s.verdicts.items)
    (sym is.0) (subst (λ (vs : List VerdictFields). ShowSet (HoldsText db) t.names vs) (sym is.1) t.set))
    (c.shown_in.ensures t.names t.counted t.waiting t.names_shown t.counted_shown t.waiting_shown)
