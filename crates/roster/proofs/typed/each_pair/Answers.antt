use Rattle.std.proofs.Common.{◌∙◌, Some, ap, sym}
use Rattle.roster.specs.Document.{pair_of}
use Rattle.roster.proofs.Loop.{items_more, items_read, items_wrong}
use Rattle.sudo_words.proofs.Exits.{is_err}
use Rattle.roster.proofs.typed.each_pair.Goals as goal

pub returns-in_err-pair : goal.returns-in_err-pair
returns-in_err-pair c =
    rw (is_err c.from_residual.result c.from_residual.ensures.1) (λ n. let h = c.in_err-pair.ensures n in (
      h.0,
      items_wrong pair_of c.args.values.now c.loop-value.value-index c.value-item.result
          c.loop-value.pairs.items _ c.loop-value-test.true c.value-item.is h.1 c.loop-value.invariant,
    ))

pub loop-value-preserved : goal.loop-value-preserved
loop-value-preserved c =
    items_more pair_of c.args.values.now c.loop-value.value-index c.value-item.result c.in_ok-pair.pair c.loop-value.pairs.items c.push.new.self.items _
    c.loop-value-test.true c.value-item.is c.in_ok-pair.ensures c.in_ok-push.ensures.items c.loop-value.invariant

pub returns : goal.returns
returns c =
    items_read pair_of c.args.values.now c.loop-value.value-index c.loop-value.pairs.items _ c.loop-value-test.false c.loop-value.invariant
    ∙ ap Some (sym c.new.ensures)
