use Rattle.std.proofs.Common.{Some, ap, sym, ◌∙◌}
use Rattle.clap.specs.Words.{found_of, rows_of}
use Rattle.desk_args.specs.declared.task.Address.{Address}
use Rattle.desk_args.proofs.Options.{address_given, no_address}
use Rattle.desk_args.proofs.Rows.{first_rows}
use Rattle.desk_args.proofs.values.address_if_given.Goals as goal

pub returns-in-Ok-clause-found : goal.returns-in-Ok-clause-found
returns-in-Ok-clause-found c = (c.in-Some.text.now, first_rows c.args.matches.now c.args.id.now ∙ sym c.in-Some.ensures, c.in-Ok.ensures.found)

pub returns-in-Ok-clause-only : goal.returns-in-Ok-clause-only
returns-in-Ok-clause-only c = λ a has.
    let is = first_rows c.args.matches.now c.args.id.now ∙ sym c.in-Some.ensures in
    let given = address_given c.args.id.now (rows_of (found_of c.args.matches.now)) c.in-Some.text.now is a has in
    ap (λ (b : Address). Some b) (c.in-Ok.ensures.only given.0 given.2) ∙ sym given.1

pub returns-in-Err-clause-only : goal.returns-in-Err-clause-only
returns-in-Err-clause-only c = λ a has.
    let is = first_rows c.args.matches.now c.args.id.now ∙ sym c.in-Some.ensures in
    let given = address_given c.args.id.now (rows_of (found_of c.args.matches.now)) c.in-Some.text.now is a has in
    c.in-Err.ensures.only given.0 given.2

pub returns-in-Err-clause-word : goal.returns-in-Err-clause-word
returns-in-Err-clause-word c = λ e. record {
  text = c.in-Some.text.now;
  value = first_rows c.args.matches.now c.args.id.now ∙ sym c.in-Some.ensures;
  bad = c.in-Err.ensures.word e;
}

pub returns-in-None-clause-found : goal.returns-in-None-clause-found
returns-in-None-clause-found c = first_rows c.args.matches.now c.args.id.now ∙ sym c.in-None.ensures

pub returns-in-None-clause-only : goal.returns-in-None-clause-only
returns-in-None-clause-only c = λ a has.
    no_address c.args.id.now (rows_of (found_of c.args.matches.now)) (first_rows c.args.matches.now c.args.id.now ∙ sym c.in-None.ensures) a has
