use Rattle.std.proofs.Common.{◌≡◌, ◌∙◌, ℕ, Option, None, Some, refl, sym}
use Rattle.clap.specs.Words.{found_of, rows_of}
use Rattle.desk_args.proofs.Options.{moment_given, no_moment}
use Rattle.desk_args.proofs.Rows.{first_rows}
use Rattle.desk_args.proofs.values.moment_if_given.Goals as goal

pub returns-in-None-clause-found : goal.returns-in-None-clause-found
returns-in-None-clause-found c = first_rows c.args.matches.now c.args.id.now ∙ sym c.in-None.ensures

pub returns-in-None-clause-only : goal.returns-in-None-clause-only
returns-in-None-clause-only c =
    no_moment c.args.id.now (rows_of (found_of c.args.matches.now)) (first_rows c.args.matches.now c.args.id.now ∙ sym c.in-None.ensures)

pub returns-in-Some-read_stamp-clause-found : goal.returns-in-Some-read_stamp-clause-found
returns-in-Some-read_stamp-clause-found c =
    (c.in-Some.text.now, first_rows c.args.matches.now c.args.id.now ∙ sym c.in-Some.ensures, c.in-Some-read_stamp.ensures.found)

pub returns-in-Some-read_stamp-clause-only : goal.returns-in-Some-read_stamp-clause-only
returns-in-Some-read_stamp-clause-only c = λ m has.
    let is = first_rows c.args.matches.now c.args.id.now ∙ sym c.in-Some.ensures in
    let given = moment_given c.args.id.now (rows_of (found_of c.args.matches.now)) c.in-Some.text.now is m has in
    c.in-Some-read_stamp.ensures.only given.0 given.2 ∙ sym given.1

pub returns-in-None-read_stamp-clause-only : goal.returns-in-None-read_stamp-clause-only
returns-in-None-read_stamp-clause-only c = λ m has.
    let is = first_rows c.args.matches.now c.args.id.now ∙ sym c.in-Some.ensures in
    let given = moment_given c.args.id.now (rows_of (found_of c.args.matches.now)) c.in-Some.text.now is m has in
    let wrong : ◌≡◌ {A = Option ℕ} None (Some given.0) = c.in-None-read_stamp.ensures.only given.0 given.2 in
    cc

pub returns-in-None-read_stamp-clause-word : goal.returns-in-None-read_stamp-clause-word
returns-in-None-read_stamp-clause-word c = (
  refl,
  record {
    text = c.in-Some.text.now;
    value = first_rows c.args.matches.now c.args.id.now ∙ sym c.in-Some.ensures;
    bad = λ m h. let none : ◌≡◌ {A = Option ℕ} None (Some m) = c.in-None-read_stamp.ensures.only m h in cc;
  },
)
