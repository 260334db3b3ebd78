use Rattle.std.proofs.Common.{rules, ◌&&◌, Contains, sym, ◌∙◌}
use Rattle.std.proofs.lemmas.Bool.{and_from}
use Rattle.sqlite_rules.proofs.ListLemmas.{has_contained, some_from}
use Rattle.store_opening.specs.private.Compare as compare
use Rattle.messages.specs.declared.message.Message.{Message}
use Rattle.store_opening.proofs.rows.is_parked_row.Goals as goal

pub returns-then-waits : goal.returns-then-waits
returns-then-waits c =
    let ms = c.args.known.now.all.now in
    let m = c.in-Some.stored.now in
    let there : Contains ms m = search rules in
    sym (some_from (λ (x : Message). compare.shows_parked c.args.row.now x && compare.waits ms x) ms m (has_contained ms m there)
    (and_from _ _ (sym c.shows_parked.ensures ∙ c.if-shows_parked.true) (sym c.waits.ensures ∙ c.if-waits.true)))
