use Rattle.grants.proofs.Answering.{no_denial, one_denial}
use Rattle.grants.proofs.SomeAnswer.{some_answer, only_person}
use Rattle.grants.proofs.admission_laws.one_answer.Goals as goal

pub returns : goal.returns
returns c = record {
  some = some_answer;
  not_both = no_denial;
  one = one_denial;
  verdict = only_person;
}
