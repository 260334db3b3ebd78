use Rattle.std.proofs.Common.{inl, inr, refl}
use Rattle.std.proofs.lemmas.Result.{err_from_is_err_and}
use Rattle.clap.specs.Words.{found_of, rows_of}
use Rattle.desk_args.specs.CommandLine.{HasBadServing}
use Rattle.desk_args.proofs.ServeWords.{one_service}
use Rattle.desk_args.proofs.command_line.serve.Goals as goal

pub returns-in_err-requests-clause-word : goal.returns-in_err-requests-clause-word
returns-in_err-requests-clause-word c =
    let p = err_from_is_err_and c.from_residual.result c.from_residual.ensures.1 in
    rw (p.1, p.2) (λ e. inr (inr (inr (inr (inl (refl, HasBadServing.bad_requests c.in_err-requests.ensures.word.1))))))

pub returns-in_err-questions-clause-word : goal.returns-in_err-questions-clause-word
returns-in_err-questions-clause-word c =
    let p = err_from_is_err_and c.from_residual-in_err-questions.result c.from_residual-in_err-questions.ensures.1 in
    rw (p.1, p.2) (λ e. inr (inr (inr (inr (inl (refl, HasBadServing.bad_questions (c.in_err-questions.ensures.word e)))))))

pub returns-in_err-addr-clause-word : goal.returns-in_err-addr-clause-word
returns-in_err-addr-clause-word c =
    let p = err_from_is_err_and c.from_residual-in_err-addr.result c.from_residual-in_err-addr.ensures.1 in
    rw (p.1, p.2) (λ e. inr (inr (inr (inr (inl (refl, HasBadServing.bad_addr (c.in_err-addr.ensures.word e)))))))

pub returns-clause-only : goal.returns-clause-only
returns-clause-only c =
    one_service (rows_of (found_of c.args.matches.now)) c.in_ok-places.places c.in_ok-addr.addr c.in_ok-questions.questions c.in_ok-requests.requests
    c.in_ok-places.ensures.only c.in_ok-addr.ensures.only c.in_ok-questions.ensures.only c.in_ok-requests.ensures.only
