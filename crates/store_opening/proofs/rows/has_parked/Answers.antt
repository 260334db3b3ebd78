use Rattle.std.proofs.Common.{rules, Contains, sym, ◌∙◌}
use Rattle.sqlite.specs.Order.{Row}
use Rattle.sqlite_rules.proofs.ListLemmas.{has_contained, some_from}
use Rattle.store_opening.specs.private.Compare as compare
use Rattle.store_opening.proofs.rows.has_parked.Goals as goal

pub returns-then-shows_parked : goal.returns-then-shows_parked
returns-then-shows_parked c =
    let rows = c.args.parked.now.rows.now in
    let r = c.in-Some.row.now in
    let there : Contains rows r = search rules in
    sym (some_from (λ (r : Row). compare.shows_parked r c.args.stored.now) rows r
    (has_contained rows r there) (sym c.shows_parked.ensures ∙ c.if-shows_parked.true))
