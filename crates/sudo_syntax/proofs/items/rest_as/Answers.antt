use Rattle.std.proofs.Common.{[], sym, ◌∙◌}
use Rattle.std.proofs.lemmas.Bool.{false≢true}
use Rattle.std.proofs.lemmas.Result.{err_from_is_err_and}
use Rattle.sudo_syntax.proofs.ListLemmas.{none_left, some_left}
use Rattle.sudo_syntax.proofs.items.rest_as.Goals as goal

pub returns-then-not-begins_spaced-clause-only : goal.returns-then-not-begins_spaced-clause-only
returns-then-not-begins_spaced-clause-only g c = λ xs spaced listed. absurd (false≢true (c.if-not-begins_spaced.ensures ∙ spaced))

pub returns-in_err-list-clause-only : goal.returns-in_err-list-clause-only
returns-in_err-list-clause-only g c = λ xs spaced listed.
    let p = err_from_is_err_and c.from_residual.result c.from_residual.ensures.1 in
    rw (p.1, p.2) (c.in_err-list.ensures.only xs [] (c.requires [] tt) tt listed)

pub returns-then-not-is_empty-clause-only : goal.returns-then-not-is_empty-clause-only
returns-then-not-is_empty-clause-only g c = λ xs spaced listed.
    absurd (some_left c.in_ok-list.rest.now (sym c.if-not-is_empty.ensures) (c.in_ok-list.ensures.only xs [] (c.requires [] tt) tt listed).1)

pub returns-clause-found : goal.returns-clause-found
returns-clause-found g c =
    let ends = none_left c.in_ok-list.rest.now (sym c.if-not-is_empty.ensures) in
    (sym c.if-not-begins_spaced.ensures, rw ends at c.in_ok-list.ensures.found)

pub returns-clause-only : goal.returns-clause-only
returns-clause-only g c = λ xs spaced listed. (c.in_ok-list.ensures.only xs [] (c.requires [] tt) tt listed).0
