use Rattle.std.proofs.Common.{◌≡◌, ◌∷◌, map, take}
use Rattle.messages.specs.declared.message.Message.TheVariants.{Request}
use Rattle.grants.specs.Summaries.{StandsFor}
use Rattle.outcomes.proofs.GatherLemmas.{of_verdict}
use Rattle.outcomes.proofs.gathering.first_of.Given as goal

abbrev pub invariant-loop-verdict : goal.invariant-loop-verdict
invariant-loop-verdict l =
    (l.summary.request ≡ l.request) × StandsFor (Request l.request ∷ map of_verdict (take l.verdict-index l.verdicts)) l.summary
