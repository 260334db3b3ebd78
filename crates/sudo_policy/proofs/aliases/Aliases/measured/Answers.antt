use Rattle.std.proofs.Common.{subst, sym}
use Rattle.sudo_policy.specs.declared.entry.Signed.{Signed}
use Rattle.sudo_policy.specs.private.Measures.{IsItemKnown, has}
use Rattle.sudo_policy.proofs.Printed.{each_at}
use Rattle.sudo_policy.proofs.Measuring.{measured_more}
use Rattle.sudo_policy.proofs.aliases.Aliases.measured.Goals as goal

pub loop-signed-preserved : goal.loop-signed-preserved
loop-signed-preserved g c =
    measured_more g.T.Aliased.alias_of c.args.self.now c.args.list.now c.loop-signed.signed-index c.signed-item.result c.loop-signed.all c.in_ok-here.here
    c.with-all.result c.loop-signed-test.true c.signed-item.is c.loop-signed.invariant c.in_ok-here.ensures c.with-all.ensures.weight c.with-all.ensures.depth

pub returns-in_err-here : goal.returns-in_err-here
returns-in_err-here g c =
    let m = c.args.self.now in
    let Known : Signed g.row.T.Denot → Type 0 = λ s. IsItemKnown (has m) (g.T.Aliased.alias_of s.item) in
    rw c.from_residual.ensures (λ all. c.in_err-here.ensures
    (subst Known (sym c.signed-item.is) (each_at Known c.args.list.now c.loop-signed.signed-index c.signed-item.result all c.loop-signed-test.true)))
