use Rattle.std.proofs.Common.{inl, inr, refl}
use Rattle.std.proofs.lemmas.Result.{err_from_is_err_and}
use Rattle.desk_args.proofs.command_line.beyond.Goals as goal

pub returns-in_err-a-clause-word : goal.returns-in_err-a-clause-word
returns-in_err-a-clause-word c =
    let p = err_from_is_err_and c.from_residual.result c.from_residual.ensures.1 in
    rw (p.1, p.2) (λ e. absurd cc)

pub returns-in_err-b-clause-word : goal.returns-in_err-b-clause-word
returns-in_err-b-clause-word c =
    let p = err_from_is_err_and c.from_residual-in_err-b.result c.from_residual-in_err-b.ensures.1 in
    rw (p.1, p.2) (λ e. absurd cc)

pub returns-in_err-scope-clause-word : goal.returns-in_err-scope-clause-word
returns-in_err-scope-clause-word c =
    let p = err_from_is_err_and c.from_residual-in_err-scope.result c.from_residual-in_err-scope.ensures.1 in
    rw (p.1, p.2) (λ e. inr (inl (refl, c.in_err-scope.ensures.word e)))
