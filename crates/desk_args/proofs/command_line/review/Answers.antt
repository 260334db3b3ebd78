use Rattle.std.proofs.Common.{inl, inr, refl}
use Rattle.std.proofs.lemmas.Result.{err_from_is_err_and}
use Rattle.clap.specs.Words.{found_of, rows_of}
use Rattle.desk_args.proofs.ReviewWords.{no_review}
use Rattle.desk_args.proofs.command_line.review.Goals as goal

pub returns-in_err-at-clause-only : goal.returns-in_err-at-clause-only
returns-in_err-at-clause-only c = λ j says. absurd (no_review (rows_of (found_of c.args.matches.now)) c.in_err-at.ensures.only j says)

pub returns-in_err-at-clause-word : goal.returns-in_err-at-clause-word
returns-in_err-at-clause-word c =
    let p = err_from_is_err_and c.from_residual.result c.from_residual.ensures.1 in
    rw (p.1, p.2) (λ e. inr (inr (inr (inl (refl, c.in_err-at.ensures.word.1)))))
