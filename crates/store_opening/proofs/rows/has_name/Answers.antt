use Rattle.std.proofs.Common.{rules, Contains, sym, ◌∙◌}
use Rattle.sqlite_rules.proofs.ListLemmas.{has_contained, some_from}
use Rattle.store_opening.specs.private.Compare as compare
use Rattle.store_opening.proofs.rows.has_name.Goals as goal

pub returns-then-is_of_name : goal.returns-then-is_of_name
returns-then-is_of_name c =
    let rows = c.args.names.now.rows.now in
    let r = c.in-Some.row.now in
    let there : Contains rows r = search rules in
    sym (some_from (compare.is_of_name c.args.asker.now c.args.number) rows r (has_contained rows r there) (sym c.is_of_name.ensures ∙ c.if-is_of_name.true))
