use Rattle.std.proofs.Common.{◌≡◌, arith}
use Rattle.std.proofs.lemmas.Bool.Decides.{nat_tests}
use Rattle.json.specs.Value.{value_view}
use Rattle.messages.proofs.NumberTexts.{number_read}
use Rattle.messages.proofs.members.number_of.Goals as goal

pub returns-in-Some-clause-only : goal.returns-in-Some-clause-only
returns-in-Some-clause-only c = λ n h e.
    let is = number_read (value_view c.args.value.now) c.as_u64.result n h e c.as_u64.ensures in
    cc

pub returns-in_default-clause-only : goal.returns-in_default-clause-only
returns-in_default-clause-only c = λ n h e.
    let is = number_read (value_view c.args.value.now) c.as_u64.result n h e c.as_u64.ensures in
    let same : c.in-Some.n ≡ n = cc in
    absurd (grind (arith, nat_tests))

pub returns-in_default-2-clause-only : goal.returns-in_default-2-clause-only
returns-in_default-2-clause-only c = λ n h e.
    let is = number_read (value_view c.args.value.now) c.as_u64.result n h e c.as_u64.ensures in
    absurd cc
