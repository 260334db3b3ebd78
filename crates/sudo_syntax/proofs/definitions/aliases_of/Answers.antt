use Rattle.std.proofs.Common.{ap}
use Rattle.std.proofs.lemmas.Result.{err_from_is_err_and}
use Rattle.std.specs.Prelude.{Some}
use Rattle.sudo_syntax.specs.private.Tokens.{toks}
use Rattle.sudo_syntax.proofs.ListLemmas.{defined_behind}
use Rattle.sudo_syntax.proofs.definitions.aliases_of.Goals as goal

pub returns-in_default-clause-only : goal.returns-in_default-clause-only
returns-in_default-clause-only g c = λ defs d. absurd (c.in_default.ensures d.0 d.1 d.2)

pub returns-in_err-list-clause-only : goal.returns-in_err-list-clause-only
returns-in_err-list-clause-only g c = λ defs d.
    let h = defined_behind _ (toks c.in-Some.next.now) c.in-Some.ensures.1 defs d in
    let p = err_from_is_err_and c.from_residual.result c.from_residual.ensures.1 in
    rw (p.1, p.2) (c.in_err-list.ensures.only defs h.0 h.1)

pub returns-clause-found : goal.returns-clause-found
returns-clause-found g c =
    (c.in-Some.ensures.0, toks c.in-Some.next.now, c.in-Some.ensures.1, c.in_ok-list.ensures.found.0, c.in_ok-list.ensures.found.1)

pub returns-clause-only : goal.returns-clause-only
returns-clause-only g c = λ defs d.
    let h = defined_behind _ (toks c.in-Some.next.now) c.in-Some.ensures.1 defs d in
    ap Some (c.in_ok-list.ensures.only defs h.0 h.1)

pub returns-in_err-list-clause-other : goal.returns-in_err-list-clause-other
returns-in_err-list-clause-other g c = λ none. absurd (none c.in-Some.ensures.0 (toks c.in-Some.next.now) c.in-Some.ensures.1)

pub returns-clause-other : goal.returns-clause-other
returns-clause-other g c = λ none. absurd (none c.in-Some.ensures.0 (toks c.in-Some.next.now) c.in-Some.ensures.1)
