use Rattle.std.proofs.Common.{List, take, sym, subst}
use Rattle.messages.specs.Fields.{VerdictFields}
use Rattle.grants.specs.Summaries.{StandsFor}
use Rattle.findings.specs.Judging.{messages_on}
use Rattle.findings.proofs.ListLemmas.{take_next}
use Rattle.findings.proofs.judged.summary_of.Goals as goal

pub loop-verdict-init : goal.loop-verdict-init
loop-verdict-init c = record {
  stands = c.in_ok-summary.ensures.stands;
  request = c.in_ok-summary.ensures.same_request;
}

pub loop-verdict-preserved : goal.loop-verdict-preserved
loop-verdict-preserved c =
    let q = c.args.request.now in
    let vs = c.args.verdicts.now in
    let i = c.loop-verdict.verdict-index in
    record {
      stands = subst (λ (xs : List VerdictFields). StandsFor (messages_on q xs) c.take_in.new.summary)
          (sym (take_next vs i c.verdict-item.result c.loop-verdict-test.true c.verdict-item.is))
          (c.in_ok-take_in.ensures.stands (take i vs) c.loop-verdict.invariant.stands);
      request = c.in_ok-take_in.ensures.request;
    }
