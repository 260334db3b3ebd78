use Rattle.std.proofs.Common.{◌∙◌, Some, ap, sym}
use Rattle.std.proofs.lemmas.Result.{err_from_is_err_and}
use Rattle.clap.specs.Words.{Text, found_of, rows_of}
use Rattle.desk_args.specs.Faults.{of_word}
use Rattle.desk_args.proofs.Args.{refused}
use Rattle.desk_args.proofs.Options.{given, left_out}
use Rattle.desk_args.proofs.Rows.{first_rows}
use Rattle.desk_args.proofs.values.word_if_given.Goals as goal

pub returns-in_err-read-in-Some-clause-only : goal.returns-in_err-read-in-Some-clause-only
returns-in_err-read-in-Some-clause-only g c = λ w has.
    let p = err_from_is_err_and c.from_residual.result c.from_residual.ensures.1 in
    let is = first_rows c.args.matches.now c.args.id.now ∙ sym c.in-Some.ensures in
    let form = (given g.F.Form.has c.args.id.now (rows_of (found_of c.args.matches.now)) c.in-Some.text.now is w has).1 in
    rw p.1 (p.2 ∙ ap of_word (c.in_err-read-in-Some.ensures.only form))

pub returns-in_err-read-in-Some-clause-word : goal.returns-in_err-read-in-Some-clause-word
returns-in_err-read-in-Some-clause-word g c =
    let p = err_from_is_err_and c.from_residual.result c.from_residual.ensures.1 in
    let is = first_rows c.args.matches.now c.args.id.now ∙ sym c.in-Some.ensures in
    rw p.1 (λ e. record {
      text = c.in-Some.text.now;
      value = is;
      bad = refused _ c.in_err-read-in-Some.field-0.0 c.in_err-read-in-Some.ensures.only (sym p.2 ∙ e);
    })

pub returns-in_ok-read-in-Some-clause-found : goal.returns-in_ok-read-in-Some-clause-found
returns-in_ok-read-in-Some-clause-found g c =
    let is = first_rows c.args.matches.now c.args.id.now ∙ sym c.in-Some.ensures in
    rw c.in_ok-read-in-Some.ensures.found.0 (is, c.in_ok-read-in-Some.ensures.found.1)

pub returns-in_ok-read-in-Some-clause-only : goal.returns-in_ok-read-in-Some-clause-only
returns-in_ok-read-in-Some-clause-only g c = λ w has.
    let is = first_rows c.args.matches.now c.args.id.now ∙ sym c.in-Some.ensures in
    ap (λ (t : Text). Some t) c.in_ok-read-in-Some.ensures.found.0
    ∙ (given g.F.Form.has c.args.id.now (rows_of (found_of c.args.matches.now)) c.in-Some.text.now is w has).0

pub returns-in-None-clause-found : goal.returns-in-None-clause-found
returns-in-None-clause-found g c = first_rows c.args.matches.now c.args.id.now ∙ sym c.in-None.ensures

pub returns-in-None-clause-only : goal.returns-in-None-clause-only
returns-in-None-clause-only g c = λ w has.
    left_out g.F.Form.has c.args.id.now (rows_of (found_of c.args.matches.now)) (first_rows c.args.matches.now c.args.id.now ∙ sym c.in-None.ensures) w has
