use Rattle.std.proofs.Common.{string_bytes, sym, ◌∙◌}
use Rattle.review.specs.Report.{conflict_line, holds_both}
use Rattle.std.proofs.lemmas.Result.{on_ok_weaker}
use Rattle.review.proofs.ReportLists.{line_where, no_line_where}
use Rattle.review.proofs.conflicts.push_conflict.Goals as goal

pub returns-then-not-holds_both : goal.returns-then-not-holds_both
returns-then-not-holds_both c =
    no_line_where (holds_both c.args.roster.now.says c.args.at c.args.person.now c.args.pair.now)
    (conflict_line c.args.person.now c.args.pair.now) (string_bytes c.args.out.now) (sym c.holds_both.ensures ∙ c.if-not-holds_both.true)

pub returns : goal.returns
returns c =
    on_ok_weaker c.push_pair.result
    (line_where (holds_both c.args.roster.now.says c.args.at c.args.person.now c.args.pair.now) (conflict_line c.args.person.now c.args.pair.now)
    (string_bytes c.args.out.now) (string_bytes c.push_pair.new.out) (sym c.holds_both.ensures ∙ c.if-not-holds_both.false)) c.push_pair.ensures
