use Rattle.std.proofs.Common.{◌∙◌, [], ap, arith}
use Rattle.std.proofs.lemmas.List.{take_all}
use Rattle.sudo_words.proofs.PieceLemmas.{same_args}
use Rattle.sudo_words.proofs.ReadingLemmas.{same_fault, texts_of, word_at}
use Rattle.sudo_words.proofs.cmnd_text.args_of.Goals as goal

pub returns-in_err-read_arg-clause-only : goal.returns-in_err-read_arg-clause-only
returns-in_err-read_arg-clause-only c = λ args h e.
    let at = word_at c.args.words.now args c.loop-word.word-index record { ref_ptr = (0, 0); now = [] } c.loop-word-test.true h e in
    let fault = c.in_err-read_arg.ensures.only at.arg at.form at.text_is in
    same_fault c.from_residual.result c.in_err-read_arg.field-0.0 _ c.from_residual.ensures.1 fault

pub returns-clause-only : goal.returns-clause-only
returns-clause-only c = λ args h e.
    let loop = c.loop-word.invariant in
    let all = take_all c.loop-word.word-index c.args.words.now (omega arith) in
    same_args c.loop-word.args.items args loop.forms h (loop.texts ∙ ap texts_of all ∙ e)
