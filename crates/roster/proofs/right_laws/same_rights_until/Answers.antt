use Rattle.roster.proofs.RightLemmas.{eligible_until, may_revoke_until, same_ceiling, same_person}
use Rattle.roster.proofs.right_laws.same_rights_until.Goals as goal

pub returns : goal.returns
returns c = record {
  person = λ f g moment person agree. same_person f g moment agree person;
  ceiling = λ f g moment label agree. same_ceiling f g moment agree label;
  eligible = λ f g moment person asker ceiling at agree. eligible_until f g moment agree person asker ceiling at;
  may_revoke = λ f g moment person asker ceiling at agree. may_revoke_until f g moment agree person asker ceiling at;
}
