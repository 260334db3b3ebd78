use Rattle.grants.proofs.LawfulRules.{extended_policy}
use Rattle.grants.proofs.host_file.host_policy.Goals as goal

pub returns-in-Err-clause-few : goal.returns-in-Err-clause-few
returns-in-Err-clause-few c = λ few.
    c.reason.ensures (c.in-Err.ensures.only (extended_policy c.args.base.now c.args.rules.items c.requires.fits few c.requires.grants))
