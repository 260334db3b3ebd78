use Rattle.outcomes.proofs.ByNameLemmas.{gathered_from}
use Rattle.outcomes.proofs.RowLemmas.{alone_by_name, shown_none}
use Rattle.outcomes.proofs.gathering.Gathered.of_names.Goals as goal

pub invariant_of-result : goal.invariant_of-result
invariant_of-result c =
    let some = c.in_ok-summaries.ensures.alone in (
      (some.0, alone_by_name some.0 c.in_ok-summaries.summaries c.new.result some.1 some.2 c.new.ensures.ordered c.new.ensures.empty),
      c.in_ok-summaries.ensures.listed,
    )

pub returns : goal.returns
returns c = λ set show.
    let s = c.in_ok-summaries.summaries in
    gathered_from set s c.new.result (alone_by_name set s c.new.result (shown_none set c.args.names.now show)
    (c.in_ok-summaries.ensures.known set show) c.new.ensures.ordered c.new.ensures.empty)
