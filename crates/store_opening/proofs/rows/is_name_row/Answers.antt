use Rattle.std.proofs.Common.{rules, Contains, sym, ◌∙◌}
use Rattle.sqlite_rules.proofs.ListLemmas.{has_contained, some_from}
use Rattle.store_opening.specs.private.Compare as compare
use Rattle.store_opening.proofs.rows.is_name_row.Goals as goal

pub returns-then-shows_request : goal.returns-then-shows_request
returns-then-shows_request c =
    let ms = c.args.known.now.all.now in
    let m = c.in-Some.stored.now in
    let there : Contains ms m = search rules in
    sym (some_from (compare.shows_request ms c.args.row.now) ms m (has_contained ms m there) (sym c.shows_request.ensures ∙ c.if-shows_request.true))
