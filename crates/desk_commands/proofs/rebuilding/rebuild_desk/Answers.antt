use Rattle.std.proofs.Common.{IfErr, arith}
use Rattle.desk_commands.specs.Kept.{kept}
use Rattle.desk_commands.specs.private.Outcomes.{IsLeft, IsOutcome}
use Rattle.desk_commands.proofs.OverLemmas.{of_two}
use Rattle.desk_args.specs.declared.task.Job.TheVariants.{Rebuild}
use Rattle.desk_commands.proofs.rebuilding.rebuild_desk.Goals as goal

pub returns-in-len2-up-clause-outcome : goal.returns-in-len2-up-clause-outcome
returns-in-len2-up-clause-outcome g c places input err =
    let K = g.K.Keeper in
    of_two (λ f. f.items) c.args.files.now c.roster-item.result c.base-item.result c.as_slice.result.now c.as_slice-in-len2-up.result.now
    (λ files. IsOutcome (Rebuild places) files (kept K.is_up K.is_empty K.is_desk K.is_old K.roster K.holds K.failures c.args.keeper c.rebuilt.result.1)
    input c.rebuilt.result.0 err err)
    (omega (arith, c.in-len2-up.len_at_least)) c.roster-item.is c.base-item.is c.as_slice.ensures.value c.as_slice-in-len2-up.ensures.value
    (λ more. c.rebuilt.ensures.outcome places more input err)

pub returns-in-len2-up-clause-left : goal.returns-in-len2-up-clause-left
returns-in-len2-up-clause-left g c places input err =
    let K = g.K.Keeper in
    of_two (λ f. f.items) c.args.files.now c.roster-item.result c.base-item.result c.as_slice.result.now c.as_slice-in-len2-up.result.now
    (λ files. IfErr c.rebuilt.result.0 (λ _. IsLeft (Rebuild places) files (kept K.is_up K.is_empty K.is_desk K.is_old K.roster K.holds K.failures
    c.args.keeper c.rebuilt.result.1) (K.is_same c.args.keeper c.rebuilt.result.1) input err err)) (omega (arith, c.in-len2-up.len_at_least))
    c.roster-item.is c.base-item.is c.as_slice.ensures.value c.as_slice-in-len2-up.ensures.value (λ more. c.rebuilt.ensures.left places more input err)
