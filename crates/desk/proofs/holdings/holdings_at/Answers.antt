use Rattle.desk.proofs.holdings.holdings_at.Goals as goal

pub returns-in_err-parked-clause-known : goal.returns-in_err-parked-clause-known
returns-in_err-parked-clause-known c = λ set written is.
    let reviewed = c.in_ok-summaries.ensures set is.0 written is.2 in
    let looked = rw c.deref.ensures.value at c.in_ok-suspects.ensures in
    (is.0, is.1, looked set c.args.at reviewed)

pub returns-clause-known : goal.returns-clause-known
returns-clause-known c = λ set written is.
    let reviewed = c.in_ok-summaries.ensures set is.0 written is.2 in
    let looked = rw c.deref.ensures.value at c.in_ok-suspects.ensures in
    (is.0, is.1, looked set c.args.at reviewed)

pub returns-clause-reviewed : goal.returns-clause-reviewed
returns-clause-reviewed c = λ set written is. c.in_ok-summaries.ensures set is.0 written is.2

pub returns-clause-parked : goal.returns-clause-parked
returns-clause-parked c = λ set is. c.in_ok-parked.ensures set is.0
