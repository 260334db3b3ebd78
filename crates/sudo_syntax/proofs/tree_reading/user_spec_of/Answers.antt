use Rattle.std.proofs.lemmas.Result.{err_from_is_err_and}
use Rattle.sudo_syntax.specs.private.Tokens.{toks}
use Rattle.sudo_syntax.proofs.ListLemmas.{no_comma}
use Rattle.sudo_syntax.proofs.tree_reading.user_spec_of.Goals as goal

pub returns-in_err-users-clause-only : goal.returns-in_err-users-clause-only
returns-in_err-users-clause-only c = λ users parts h.
    let p = err_from_is_err_and c.from_residual.result c.from_residual.ensures.1 in
    rw (p.1, p.2) (c.in_err-users.ensures.only users h.0 tt (no_comma h.0 parts h.3) h.1)

pub returns-in_err-parts-clause-only : goal.returns-in_err-parts-clause-only
returns-in_err-parts-clause-only c = λ users parts h.
    let read = c.in_ok-users.ensures.only users h.0 tt (no_comma h.0 parts h.3) h.1 in
    let p = err_from_is_err_and c.from_residual-in_err-parts.result c.from_residual-in_err-parts.ensures.1 in
    rw (p.1, p.2) (c.in_err-parts.ensures.only parts (rw read.1 h.2) (rw read.1 h.3))

pub returns-clause-found : goal.returns-clause-found
returns-clause-found c = (toks c.in_ok-users.next.now, c.in_ok-users.ensures.found, c.in_ok-parts.ensures.found.0, c.in_ok-parts.ensures.found.1)

pub returns-clause-only : goal.returns-clause-only
returns-clause-only c = λ users parts h.
    let read = c.in_ok-users.ensures.only users h.0 tt (no_comma h.0 parts h.3) h.1 in
    (read.0, c.in_ok-parts.ensures.only parts (rw read.1 h.2) (rw read.1 h.3))
