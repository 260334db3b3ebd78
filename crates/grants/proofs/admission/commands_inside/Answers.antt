use Rattle.std.proofs.Common.{◌∙◌, sym}
use Rattle.grants.proofs.LookUps.{each_in_all}
use Rattle.grants.proofs.admission.commands_inside.Goals as goal

pub returns-then-holds_all-clause-value : goal.returns-then-holds_all-clause-value
returns-then-holds_all-clause-value c =
    sym (each_in_all c.args.ceiling.now.commands c.args.request.now.cmnds (sym c.holds_all.ensures.value ∙ c.if-holds_all.true))
