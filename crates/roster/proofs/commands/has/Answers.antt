use Rattle.std.proofs.Common.{◌+◌, ◌-◌, ◌/◌, ◌∙◌, arith, sym, ap}
use Rattle.roster.specs.private.LookupOrders.{place_order}
use Rattle.roster.proofs.CommandLemmas.{all_greater, all_less, none_there, one_there}
use Rattle.roster.proofs.commands.has.Goals as goal

pub halves-preserved-in-Less : goal.halves-preserved-in-Less
halves-preserved-in-Less c =
    let i = c.halves.invariant in
    let m = c.halves.low + (c.halves.high - c.halves.low) / 2 in
    record {
      ends = omega arith;
      within = i.within;
      below = all_less c.args.ordered.now c.requires c.args.wanted.now m _ (omega arith) c.index-ordered-middle.is
          (ap (λ p. place_order p c.args.wanted.now) (sym c.place_of.ensures) ∙ sym c.compare.ensures ∙ c.in-Less.is);
      above = i.above;
    }

pub halves-preserved : goal.halves-preserved
halves-preserved c =
    let i = c.halves.invariant in
    let m = c.halves.low + (c.halves.high - c.halves.low) / 2 in
    record {
      ends = omega arith;
      within = omega arith;
      below = i.below;
      above = all_greater c.args.ordered.now c.requires c.args.wanted.now m _ (omega arith) c.index-ordered-middle.is
          (ap (λ p. place_order p c.args.wanted.now) (sym c.place_of.ensures) ∙ sym c.compare.ensures ∙ c.in-Greater.is);
    }

pub returns-in-Equal : goal.returns-in-Equal
returns-in-Equal c =
    let m = c.halves.low + (c.halves.high - c.halves.low) / 2 in
    sym (one_there c.args.ordered.now c.args.wanted.now m _ (omega (arith, c.halves.invariant.within)) c.index-ordered-middle.is
    (ap (λ p. place_order p c.args.wanted.now) (sym c.place_of.ensures) ∙ sym c.compare.ensures ∙ c.in-Equal.is))

pub returns : goal.returns
returns c =
    let i = c.halves.invariant in
    sym (none_there c.args.ordered.now c.args.wanted.now c.halves.low i.below
    (λ k d from to within. i.above k d (omega (arith, from, c.halves-test.false, i.ends)) to within))
