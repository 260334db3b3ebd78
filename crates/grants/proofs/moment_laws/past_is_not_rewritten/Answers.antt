use Rattle.grants.proofs.PastLaws.{counts_alike, judge_alike, same_admits, same_complete, same_denial, same_rules, same_status, same_window}
use Rattle.grants.proofs.moment_laws.past_is_not_rewritten.Goals as goal

pub returns : goal.returns
returns c = record {
  admits = λ f g moment m agree. same_admits f g moment agree m;
  denial = λ f g moment m d agree. same_denial f g moment agree m d;
  counts = λ f g moment ceiling v agree. counts_alike f g moment agree ceiling v;
  complete = λ f g moment set q at agree early. same_complete f g set (judge_alike f g moment set agree early) q at;
  status = λ f g moment set name status agree early. same_status f g set (judge_alike f g moment set agree early) name status;
  window = λ f g moment set q at agree early. same_window f g set (judge_alike f g moment set agree early) q at;
  rules = λ f g moment set q host rules agree early. same_rules f g set (judge_alike f g moment set agree early) q host rules;
}
