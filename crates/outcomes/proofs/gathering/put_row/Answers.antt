use Rattle.std.proofs.Common.{◌≡◌, Some, None, sym, subst}
use Rattle.messages.specs.Names.{name_of}
use Rattle.messages.specs.declared.request_name.RequestName.{RequestName}
use Rattle.outcomes.specs.private.ByName.{at_name}
use Rattle.outcomes.proofs.NameMaps.{SetsAt, sets_from}
use Rattle.outcomes.proofs.RowLemmas.{alone_first, rows_again, rows_first}
use Rattle.outcomes.proofs.IndexLemmas.{listed_first, listed_more, listed_same}
use Rattle.outcomes.proofs.gathering.put_row.Goals as goal
use Rattle.outcomes.proofs.gathering.put_row.Goals.{Joined-branch-5}

pub returns-in-Some-clause-rows : goal.returns-in-Some-clause-rows
returns-in-Some-clause-rows c = λ set rows bare is g.
    let there = subst (λ (n : RequestName). at_name c.args.summaries.now n ≡ Some c.in-Some.field-0.now) c.in_ok-name.ensures (sym c.in-Some.ensures.value) in
    rows_again set rows c.args.row.now c.args.summaries.now c.in-Some.field-0.now there g

sets : (c : Joined-branch-5) → SetsAt c.args.summaries.now c.insert.new.self (name_of c.args.row.now.request) c.in_ok-summary-in-None.summary
sets c =
    let k = c.in_ok-summary-in-None.summary in
    subst (λ (n : RequestName). SetsAt c.args.summaries.now c.insert.new.self n k) c.in_ok-name.ensures
    (sets_from c.args.summaries.now c.insert.new.self c.in_ok-name.name k c.in_ok-insert-in-None.ensures.updates)

pub returns-in_ok-insert-in-None-clause-alone : goal.returns-in_ok-insert-in-None-clause-alone
returns-in_ok-insert-in-None-clause-alone c = λ alone.
    let bare = subst (λ (n : RequestName). at_name c.args.summaries.now n ≡ None) c.in_ok-name.ensures (sym c.in-None.ensures.value) in
    alone_first c.args.row.now c.args.summaries.now c.insert.new.self c.in_ok-summary-in-None.summary bare
    (sets c) c.in_ok-insert-in-None.ensures.ordered c.in_ok-summary-in-None.ensures.same_request c.in_ok-summary-in-None.ensures.stands alone

pub returns-in_ok-insert-in-None-clause-rows : goal.returns-in_ok-insert-in-None-clause-rows
returns-in_ok-insert-in-None-clause-rows c =
    λ set rows bare is g. rows_first set rows c.args.row.now c.args.summaries.now c.insert.new.self c.in_ok-summary-in-None.summary
    (sets c) c.in_ok-insert-in-None.ensures.ordered c.in_ok-summary-in-None.ensures.same_request (c.in_ok-summary-in-None.ensures.stands set bare is) g

-- ---- the index

pub returns-in_err-list-in-None-clause-listed : goal.returns-in_err-list-in-None-clause-listed
returns-in_err-list-in-None-clause-listed c =
    listed_more c.args.index.now c.list.new.self c.args.summaries.now c.list.ensures.stays

pub returns-in_err-insert-in-None-clause-listed : goal.returns-in_err-insert-in-None-clause-listed
returns-in_err-insert-in-None-clause-listed c = λ listed.
    let more = listed_more c.args.index.now c.list.new.self c.args.summaries.now c.list.ensures.stays listed in
    listed_same c.list.new.self c.args.summaries.now c.insert.new.self c.in_err-insert-in-None.ensures.err more

pub returns-in_ok-insert-in-None-clause-listed : goal.returns-in_ok-insert-in-None-clause-listed
returns-in_ok-insert-in-None-clause-listed c =
    let old = c.args.summaries.now in
    let new = c.insert.new.self in
    let k = c.in_ok-summary-in-None.summary in
    let sets = sets_from old new c.in_ok-name.name k c.in_ok-insert-in-None.ensures.updates in
    listed_first c.args.index.now c.list.new.self old new c.in_ok-name.name k c.args.row.now.request sets
    c.in_ok-summary-in-None.ensures.same_request
    c.in_ok-list-in-None.ensures.here c.list.ensures.stays
