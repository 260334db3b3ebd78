use Rattle.grants.proofs.WeightLaws.{weighs_counts, weighs_asker, weighs_duty, weighs_conflict}
use Rattle.grants.proofs.weight_laws.when_it_weighs_what.Goals as goal

pub returns : goal.returns
returns c = record {
  counts = weighs_counts;
  asker = weighs_asker;
  duty = weighs_duty;
  conflict = weighs_conflict;
}
