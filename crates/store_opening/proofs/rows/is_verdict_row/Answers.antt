use Rattle.std.proofs.Common.{rules, ◌&&◌, Contains, sym, ◌∙◌}
use Rattle.std.proofs.lemmas.Bool.{and_from}
use Rattle.sqlite_rules.proofs.ListLemmas.{has_contained, some_from}
use Rattle.store_opening.specs.private.Compare as compare
use Rattle.messages.specs.declared.message.Message.{Message}
use Rattle.store_opening.proofs.rows.is_verdict_row.Goals as goal

pub returns-then-counts : goal.returns-then-counts
returns-then-counts c =
    let ms = c.args.known.now.all.now in
    let m = c.in-Some.stored.now in
    let there : Contains ms m = search rules in
    sym (some_from (λ (x : Message). compare.shows_verdict c.args.row.now x && compare.counts ms x) ms m (has_contained ms m there)
    (and_from _ _ (sym c.shows_verdict.ensures ∙ c.if-shows_verdict.true) (sym c.counts.ensures ∙ c.if-counts.true)))
