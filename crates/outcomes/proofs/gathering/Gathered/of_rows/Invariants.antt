use Rattle.std.proofs.Common.{List, ◌++◌, map, take}
use Rattle.std.specs.List.{Contains}
use Rattle.messages.specs.NameRows.{ShowSet}
use Rattle.messages.specs.declared.message.Message.{Message}
use Rattle.outcomes.specs.Gathered.{AreGathered}
use Rattle.outcomes.proofs.GatherLemmas.{of_verdict}
use Rattle.outcomes.proofs.RowLemmas.{requests_of}
use Rattle.outcomes.proofs.gathering.Gathered.of_rows.Given as goal

abbrev pub invariant-loop-verdict : goal.invariant-loop-verdict
invariant-loop-verdict l = (set : List Message) → ShowSet (λ m. Contains set m) l.names l.verdicts
    → AreGathered (requests_of set ++ map of_verdict (take l.verdict-index l.verdicts)) l.gathered
