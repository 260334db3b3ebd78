use Rattle.std.proofs.Common.{◌+◌, ◌-◌, ◌/◌, ◌∙◌, arith, sym}
use Rattle.roster.proofs.Rising.{all_above, all_below, found, not_found}
use Rattle.roster.proofs.relations.entry_of.Goals as goal

pub halves-preserved-in-Less : goal.halves-preserved-in-Less
halves-preserved-in-Less g c =
    let i = c.halves.invariant in
    let m = c.halves.low + (c.halves.high - c.halves.low) / 2 in
    record {
      ends = omega arith;
      within = i.within;
      below = all_below c.args.entries.now c.requires c.args.name.now m _ (omega arith) c.index-entries-middle.is (sym c.cmp.ensures ∙ c.in-Less.is);
      above = i.above;
    }

pub halves-preserved : goal.halves-preserved
halves-preserved g c =
    let i = c.halves.invariant in
    let m = c.halves.low + (c.halves.high - c.halves.low) / 2 in
    record {
      ends = omega arith;
      within = omega arith;
      below = i.below;
      above = all_above c.args.entries.now c.requires c.args.name.now m _ (omega arith) c.index-entries-middle.is (sym c.cmp.ensures ∙ c.in-Greater.is);
    }

pub returns-in-Equal : goal.returns-in-Equal
returns-in-Equal g c =
    let m = c.halves.low + (c.halves.high - c.halves.low) / 2 in
    sym (found c.args.entries.now c.requires c.args.name.now m _
    (omega (arith, c.halves.invariant.within)) c.index-entries-middle.is (sym c.cmp.ensures ∙ c.in-Equal.is))

pub returns : goal.returns
returns g c =
    let i = c.halves.invariant in
    sym (not_found c.args.entries.now c.args.name.now c.halves.low i.below
    (λ k d from to within. i.above k d (omega (arith, from, c.halves-test.false, i.ends)) to within))
