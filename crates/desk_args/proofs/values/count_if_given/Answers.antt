use Rattle.std.proofs.Common.{◌≡◌, ◌∙◌, ℕ, Some, true, false, ap, refl, sym}
use Rattle.std.specs.Str.Parse.{digits_value}
use Rattle.clap.specs.Words.{found_of, rows_of}
use Rattle.desk_args.specs.CommandLine.{is_count}
use Rattle.desk_args.proofs.Options.{counted, counts, no_count, not_counted}
use Rattle.desk_args.proofs.Rows.{first_rows}
use Rattle.desk_args.proofs.values.count_if_given.Goals as goal

pub returns-in-None-clause-found : goal.returns-in-None-clause-found
returns-in-None-clause-found c = first_rows c.args.matches.now c.args.id.now ∙ sym c.in-None.ensures

pub returns-in-None-clause-only : goal.returns-in-None-clause-only
returns-in-None-clause-only c =
    no_count c.args.id.now (rows_of (found_of c.args.matches.now)) (first_rows c.args.matches.now c.args.id.now ∙ sym c.in-None.ensures)

pub returns-in-Some-count_of-clause-found : goal.returns-in-Some-count_of-clause-found
returns-in-Some-count_of-clause-found c =
    let is = first_rows c.args.matches.now c.args.id.now ∙ sym c.in-Some.ensures in
    let found = c.in-Some-count_of.ensures.found in
    counts c.args.id.now
    (rows_of (found_of c.args.matches.now)) c.in-Some.text.now c.as_bytes.result.now c.in-Some-count_of.n is c.as_bytes.ensures.value found.0 found.1

pub returns-in-Some-count_of-clause-only : goal.returns-in-Some-count_of-clause-only
returns-in-Some-count_of-clause-only c = λ n has.
    let is = first_rows c.args.matches.now c.args.id.now ∙ sym c.in-Some.ensures in
    ap (λ (k : ℕ). Some k) (c.in-Some-count_of.ensures.found.1 ∙ ap (digits_value 10) c.as_bytes.ensures.value)
    ∙ (counted c.args.id.now (rows_of (found_of c.args.matches.now)) c.in-Some.text.now is n has).0

pub returns-in-None-count_of-clause-only : goal.returns-in-None-count_of-clause-only
returns-in-None-count_of-clause-only c = λ n has.
    let is = first_rows c.args.matches.now c.args.id.now ∙ sym c.in-Some.ensures in
    let good : is_count c.in-Some.text.now ≡ true = (counted c.args.id.now (rows_of (found_of c.args.matches.now)) c.in-Some.text.now is n has).1 in
    let bad : is_count c.in-Some.text.now ≡ false =
    not_counted c.in-Some.text.now c.as_bytes.result.now c.as_bytes.ensures.value c.in-None-count_of.ensures.only in
    let wrong : true ≡ false = sym good ∙ bad in
    cc

pub returns-in-None-count_of-clause-word : goal.returns-in-None-count_of-clause-word
returns-in-None-count_of-clause-word c = (
  refl,
  record {
    text = c.in-Some.text.now;
    value = first_rows c.args.matches.now c.args.id.now ∙ sym c.in-Some.ensures;
    bad = not_counted c.in-Some.text.now c.as_bytes.result.now c.as_bytes.ensures.value c.in-None-count_of.ensures.only;
  },
)
