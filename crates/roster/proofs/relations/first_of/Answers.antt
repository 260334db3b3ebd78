use Rattle.std.proofs.Common.{arith, refl, sym, ◌∙◌}
use Rattle.roster.proofs.Order.{among_at, first_changes, first_stays}
use Rattle.roster.proofs.relations.first_of.Goals as goal
use Rattle.roster.proofs.relations.first_of.Goals.{then-lt, else-lt}

pub loop-word-init : goal.loop-word-init
loop-word-init g c = record { among = among_at c.args.words.now 0 _ (omega arith) c.index-words-0.is; first = refl }

pub loop-word-preserved : goal.loop-word-preserved
loop-word-preserved g c = elim c.if-lt.branch [
  | then-lt w ↦ record {
    among = rw w.first-is (among_at c.args.words.now c.loop-word.word-index _ (omega arith) c.word-item.is);
    first = rw w.first-is (first_changes c.args.words.now c.loop-word.word-index _ _ c.loop-word-test.true c.word-item.is
        (sym c.lt.ensures ∙ w.if-lt.true) c.loop-word.invariant.first);
  }
  | else-lt w ↦ record {
    among = rw w.first-is c.loop-word.invariant.among;
    first = rw w.first-is (first_stays c.args.words.now c.loop-word.word-index _ _ c.loop-word-test.true c.word-item.is
        (sym c.lt.ensures ∙ w.if-lt.false) c.loop-word.invariant.first);
  }
]
