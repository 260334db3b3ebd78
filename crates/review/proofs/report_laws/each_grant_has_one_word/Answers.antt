use Rattle.review.specs.Needs.{IsNeedOn}
use Rattle.review.proofs.NeedLemmas.{one_need_on, one_need_over}
use Rattle.review.proofs.SomeNeed.{some_need}
use Rattle.review.proofs.report_laws.each_grant_has_one_word.Goals as goal

pub returns-clause-some : goal.returns-clause-some
returns-clause-some c = λ base q w is_base is_q begins ends. some_need base is_base q is_q w begins ends

pub returns-clause-one : goal.returns-clause-one
returns-clause-one c = λ base q w m n. one_need_over (IsNeedOn base q w) (one_need_on base q w) q.hosts m n
