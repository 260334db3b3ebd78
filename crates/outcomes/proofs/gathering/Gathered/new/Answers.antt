use Rattle.std.proofs.Common.{[]}
use Rattle.outcomes.proofs.ByNameLemmas.{gathered_from, none_by_name}
use Rattle.outcomes.proofs.IndexLemmas.{listed_none}
use Rattle.outcomes.proofs.gathering.Gathered.new.Goals as goal

pub invariant_of-result : goal.invariant_of-result
invariant_of-result c = (
  ([], none_by_name c.new.result c.new-2.result c.new.ensures.ordered c.new.ensures.empty c.new-2.ensures.ordered c.new-2.ensures.empty),
  listed_none c.new-3.result c.new.result c.new.ensures.empty,
)

pub returns : goal.returns
returns c =
    gathered_from [] c.new.result c.new-2.result
    (none_by_name c.new.result c.new-2.result c.new.ensures.ordered c.new.ensures.empty c.new-2.ensures.ordered c.new-2.ensures.empty)
