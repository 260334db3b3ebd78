use Rattle.std.proofs.Common.{rules, Contains, sym, ◌∙◌}
use Rattle.sqlite.specs.Order.{Row}
use Rattle.sqlite_rules.proofs.ListLemmas.{has_contained, some_from}
use Rattle.store_opening.specs.private.Compare as compare
use Rattle.store_opening.proofs.rows.has_verdict.Goals as goal

pub returns-then-shows_verdict : goal.returns-then-shows_verdict
returns-then-shows_verdict c =
    let rows = c.args.verdicts.now.rows.now in
    let r = c.in-Some.row.now in
    let there : Contains rows r = search rules in
    sym (some_from (λ (r : Row). compare.shows_verdict r c.args.stored.now) rows r
    (has_contained rows r there) (sym c.shows_verdict.ensures ∙ c.if-shows_verdict.true))
