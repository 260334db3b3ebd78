use Rattle.desk.proofs.RunLemmas.{deliveries_run, run_leaves, runs_agree}
use Rattle.desk.proofs.run_laws.run_free.Goals as goal

pub returns-clause-held : goal.returns-clause-held
returns-clause-held c = run_leaves

pub returns-clause-same : goal.returns-clause-same
returns-clause-same c = runs_agree

pub returns-clause-deliveries : goal.returns-clause-deliveries
returns-clause-deliveries c = deliveries_run
