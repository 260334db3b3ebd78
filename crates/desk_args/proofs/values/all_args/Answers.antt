use Rattle.std.proofs.Common.{◌∙◌, arith, sym}
use Rattle.std.proofs.lemmas.Result.{err_from_is_err_and}
use Rattle.sudo_words.specs.Word.{is_arg}
use Rattle.desk_args.proofs.Args.{bad_text, refused}
use Rattle.desk_args.proofs.values.all_args.Goals as goal

pub returns-in_err-read-clause-word : goal.returns-in_err-read-clause-word
returns-in_err-read-clause-word c =
    let p = err_from_is_err_and c.from_residual.result c.from_residual.ensures.1 in
    rw p.1
    (λ e. bad_text is_arg c.args.texts.now c.loop-text.text-index _ (omega arith) (refused _ c.in_err-read.field-0.0 c.in_err-read.ensures.only (sym p.2 ∙ e)))
