use Rattle.std.proofs.lemmas.Result.{err_from_is_err_and}
use Rattle.desk_commands.proofs.CompareLemmas.{ends_comparing}
use Rattle.desk_commands.proofs.comparing.compare.Goals as goal

pub returns-in_err-found-clause-err : goal.returns-in_err-found-clause-err
returns-in_err-found-clause-err c a_file b_file of_a of_b =
    let p = err_from_is_err_and c.from_residual.result c.from_residual.ensures.1 in
    rw (p.1, p.2) (ends_comparing _ _ _ _ _ of_a of_b _ c.in_err-found.ensures.answer)
