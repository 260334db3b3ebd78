use Rattle.std.proofs.Common.{◌≡◌, ◌∙◌, ◌+◌, ◌-◌, None, Some, ap, arith, drop, length, sym, take, true}
use Rattle.std.proofs.lemmas.List.{take_rest}
use Rattle.std.proofs.lemmas.Str.Pattern.{rfind_char}
use Rattle.clap.specs.Words.{Text}
use Rattle.desk_args.specs.CommandLine.{is_port}
use Rattle.desk_args.proofs.Addresses.{cut_at, last_colon, some_colon}
use Rattle.desk_args.proofs.address.is_host_and_port.Goals as goal

pub returns-then-colon-gt0-clause-is : goal.returns-then-colon-gt0-clause-is
returns-then-colon-gt0-clause-is c = λ yes.
    let text : Text = c.args.text.now in
    let bytes : Text = c.as_bytes.result.now in
    let after = c.in-Some.colon + 1 in
    let found = rfind_char 58 text (Some c.in-Some.colon) c.in-Some.ensures.cases (omega arith) in
    let rest : take (length bytes - after) (drop after bytes) ≡ drop after text =
    take_rest bytes after ∙ ap (λ (t : Text). drop after t) c.as_bytes.ensures.value in
    let port : is_port (drop after text) ≡ true = ap is_port (sym rest) ∙ (sym c.is_port.ensures ∙ yes) in
    cut_at text c.in-Some.colon c.if-colon-gt0.true found.0 found.1 port

pub returns-then-colon-gt0-clause-only : goal.returns-then-colon-gt0-clause-only
returns-then-colon-gt0-clause-only c = λ is.
    let text : Text = c.args.text.now in
    let bytes : Text = c.as_bytes.result.now in
    let after = c.in-Some.colon + 1 in
    let found = rfind_char 58 text (Some c.in-Some.colon) c.in-Some.ensures.cases (omega arith) in
    let rest : take (length bytes - after) (drop after bytes) ≡ drop after text =
    take_rest bytes after ∙ ap (λ (t : Text). drop after t) c.as_bytes.ensures.value in
    let last = last_colon text c.in-Some.colon found.0 found.1 found.2 is in
    c.is_port.ensures ∙ (ap is_port rest ∙ last.1)

pub returns-else-colon-gt0-clause-only : goal.returns-else-colon-gt0-clause-only
returns-else-colon-gt0-clause-only c = λ is.
    let found = rfind_char 58 c.args.text.now (Some c.in-Some.colon) c.in-Some.ensures.cases (omega arith) in
    let last = last_colon c.args.text.now c.in-Some.colon found.0 found.1 found.2 is in
    absurd (omega (arith, last.0))

pub returns-in-None-clause-only : goal.returns-in-None-clause-only
returns-in-None-clause-only c = λ is. absurd (some_colon c.args.text.now (rfind_char 58 c.args.text.now None c.in-None.ensures.cases (omega arith)) is)
