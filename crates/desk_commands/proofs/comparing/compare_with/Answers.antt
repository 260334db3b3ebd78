use Rattle.std.proofs.Common.{inr}
use Rattle.std.proofs.lemmas.Result.{err_from_is_err_and}
use Rattle.desk_commands.proofs.comparing.compare_with.Goals as goal

pub returns-in_err-b-clause-err : goal.returns-in_err-b-clause-err
returns-in_err-b-clause-err c a_file of_a =
    let p = err_from_is_err_and c.from_residual.result c.from_residual.ensures.1 in
    rw (p.1, p.2) (inr ((_, of_a), c.in_err-b.ensures.only))

pub returns-clause-found : goal.returns-clause-found
returns-clause-found c a_file of_a = c.compare.ensures.found a_file c.args.b.now of_a c.in_ok-b.ensures.found

pub returns-clause-err : goal.returns-clause-err
returns-clause-err c a_file of_a = c.compare.ensures.err a_file c.args.b.now of_a c.in_ok-b.ensures.found
