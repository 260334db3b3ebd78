use Rattle.std.proofs.Common.{inl, inr, refl}
use Rattle.std.proofs.lemmas.Result.{err_from_is_err_and}
use Rattle.desk_args.specs.CommandLine.{HasBadPlace}
use Rattle.desk_args.proofs.command_line.print.Goals as goal

pub returns-in_err-after-clause-word : goal.returns-in_err-after-clause-word
returns-in_err-after-clause-word c =
    let p = err_from_is_err_and c.from_residual.result c.from_residual.ensures.1 in
    rw (p.1, p.2) (λ e. inr (inr (inl (refl, HasBadPlace.bad_after c.in_err-after.ensures.word.1))))

pub returns-in_err-host-clause-word : goal.returns-in_err-host-clause-word
returns-in_err-host-clause-word c =
    let p = err_from_is_err_and c.from_residual-in_err-host.result c.from_residual-in_err-host.ensures.1 in
    rw (p.1, p.2) (λ e. inr (inr (inl (refl, HasBadPlace.bad_target (c.in_err-host.ensures.word e)))))
