use Rattle.roster.proofs.RightLemmas.{agree_chained, agree_turned, begun_agree, changed_agree}
use Rattle.roster.proofs.right_laws.later_days_agree.Goals as goal

pub returns : goal.returns
returns c = record {
  changed = changed_agree;
  begun = begun_agree;
  turned = agree_turned;
  chained = agree_chained;
}
