use Rattle.std.proofs.Common.{◌≡◌, ◌&&◌, ap, ◌∙◌}
use Rattle.std.specs.Prelude.{count_by}
use Rattle.std.specs.Ordering.{int_eq}
use Rattle.std.specs.Str.{bytes_eq}
use Rattle.std.proofs.lemmas.List.{take_all}
use Rattle.store_opening.specs.private.Names.{is_at, name_is}
use Rattle.store_opening.proofs.OnceLemmas.{counts_more}
use Rattle.store_opening.proofs.once.names_in.Goals as goal

pub loop-row-preserved : goal.loop-row-preserved
loop-row-preserved c asker number =
    let same : is_at asker number c.name_in.result ≡ name_is asker number c.row-item.result =
    λ i. bytes_eq (c.name_in.ensures.by i) asker && int_eq (c.name_in.ensures.number i) number in
    rw c.in_ok-push.ensures.items (counts_more (is_at asker number) (name_is asker number) c.loop-row.names.items c.name_in.result
    c.args.rows.now c.loop-row.row-index c.row-item.result c.loop-row-test.true c.row-item.is same (c.loop-row.invariant asker number))

pub returns : goal.returns
returns c asker number =
    c.loop-row.invariant asker number ∙ ap (count_by (name_is asker number)) (take_all c.loop-row.row-index c.args.rows.now c.loop-row-test.false)
