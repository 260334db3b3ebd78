use Rattle.std.proofs.Common.{inl, refl}
use Rattle.std.proofs.lemmas.Result.{err_from_is_err_and}
use Rattle.desk_args.proofs.command_line.decide.Goals as goal

pub returns-in_err-file-clause-word : goal.returns-in_err-file-clause-word
returns-in_err-file-clause-word c =
    let p = err_from_is_err_and c.from_residual.result c.from_residual.ensures.1 in
    rw (p.1, p.2) (λ e. absurd cc)

pub returns-in_err-invocation-clause-word : goal.returns-in_err-invocation-clause-word
returns-in_err-invocation-clause-word c =
    let p = err_from_is_err_and c.from_residual-in_err-invocation.result c.from_residual-in_err-invocation.ensures.1 in
    rw (p.1, p.2) (λ e. inl (refl, c.in_err-invocation.ensures.word e))
