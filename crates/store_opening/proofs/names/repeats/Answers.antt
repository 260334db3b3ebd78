use Rattle.std.proofs.Common.{◌≤◌, suc, ◌-◌, length, sym, ◌∙◌, arith}
use Rattle.store_opening.proofs.NameLemmas.{no_more}
use Rattle.store_opening.proofs.names.repeats.Goals as goal

pub returns : goal.returns
returns c =
    let short : length c.args.names.now ≤ suc (c.loop-i.i - 1) = omega arith in
    sym (no_more c.args.names.now (c.loop-i.i - 1) short) ∙ c.loop-i.invariant.1
