use Rattle.std.proofs.lemmas.Result.{err_from_is_err_and}
use Rattle.desk_commands.proofs.opening.parts.Goals as goal

pub returns-in_err-base-clause-err : goal.returns-in_err-base-clause-err
returns-in_err-base-clause-err c =
    let p = err_from_is_err_and c.from_residual-in_err-base.result c.from_residual-in_err-base.ensures.1 in
    rw (p.1, p.2) ((_, c.in_ok-roster.ensures.found.0), c.in_err-base.ensures.only)
