use Rattle.std.proofs.Common.{string_bytes}
use Rattle.review.specs.Report.{conflict_for}
use Rattle.review.proofs.ReportLists.{flat_more}
use Rattle.review.proofs.conflicts.push_conflicts.Goals as goal

pub loop-pair-preserved : goal.loop-pair-preserved
loop-pair-preserved c =
    flat_more (conflict_for c.args.roster.now.says c.args.at c.args.person.now) c.args.pairs.now c.loop-pair.pair-index c.pair-item.result
    (string_bytes c.args.out.now) (string_bytes c.loop-pair.out) (string_bytes c.push_conflict.new.out)
    c.loop-pair-test.true c.pair-item.is c.loop-pair.invariant c.in_ok-push_conflict.ensures
