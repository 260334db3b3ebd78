use Rattle.std.proofs.Common.{◌≡◌, take}
use Rattle.grants.specs.Summaries.{StandsFor}
use Rattle.findings.specs.Judging.{messages_on}
use Rattle.findings.proofs.judged.summary_of.Given as goal

abbrev pub invariant-loop-verdict : goal.invariant-loop-verdict
invariant-loop-verdict l = record {
  stands : StandsFor (messages_on l.request (take l.verdict-index l.verdicts)) l.summary;
  request : l.summary.request ≡ l.request;
}
