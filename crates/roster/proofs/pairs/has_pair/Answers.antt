use Rattle.std.proofs.Common.{◌+◌, ◌-◌, ◌/◌, ◌∙◌, arith, sym}
use Rattle.roster.proofs.PairLemmas.{all_greater, all_less, none_there, one_there}
use Rattle.roster.proofs.pairs.has_pair.Goals as goal

pub halves-preserved-in-Less : goal.halves-preserved-in-Less
halves-preserved-in-Less c =
    let i = c.halves.invariant in
    let m = c.halves.low + (c.halves.high - c.halves.low) / 2 in
    record {
      ends = omega arith;
      within = i.within;
      below = all_less c.args.ordered.now c.requires (c.args.first.now, c.args.second.now) m _
          (omega arith) c.index-ordered-middle.is (sym c.compare.ensures ∙ c.in-Less.is);
      above = i.above;
    }

pub halves-preserved : goal.halves-preserved
halves-preserved c =
    let i = c.halves.invariant in
    let m = c.halves.low + (c.halves.high - c.halves.low) / 2 in
    record {
      ends = omega arith;
      within = omega arith;
      below = i.below;
      above = all_greater c.args.ordered.now c.requires (c.args.first.now, c.args.second.now) m _
          (omega arith) c.index-ordered-middle.is (sym c.compare.ensures ∙ c.in-Greater.is);
    }

pub returns-in-Equal : goal.returns-in-Equal
returns-in-Equal c =
    let m = c.halves.low + (c.halves.high - c.halves.low) / 2 in
    sym (one_there c.args.ordered.now c.args.first.now c.args.second.now m _
    (omega (arith, c.halves.invariant.within)) c.index-ordered-middle.is (sym c.compare.ensures ∙ c.in-Equal.is))

pub returns : goal.returns
returns c =
    let i = c.halves.invariant in
    sym (none_there c.args.ordered.now c.args.first.now c.args.second.now c.halves.low i.below
    (λ k d from to within. i.above k d (omega (arith, from, c.halves-test.false, i.ends)) to within))
