use Rattle.std.proofs.Common.{ℕ, List, take, sym, subst}
use Rattle.std.specs.List.{flat_map}
use Rattle.sudo_beyond.specs.Cases.{of_target}
use Rattle.sudo_beyond.specs.Answer.{IsFirstWith}
use Rattle.sudo_beyond.specs.private.Compared.{IsAnsweredGap}
use Rattle.sudo_beyond.proofs.Gaps.{NoGap, gap_here}
use Rattle.sudo_beyond.proofs.search.of_host.Goals as goal

pub returns-in-Some : goal.returns-in-Some
returns-in-Some c =
    subst (λ (xs : List (List ℕ)). IsFirstWith (IsAnsweredGap c.args.a.now c.args.b.now)
    (flat_map (of_target c.args.cases.now c.args.user.now c.args.host.now) xs)
    c.in-Some.i) c.as_slice-runas-items.ensures (gap_here (IsAnsweredGap c.args.a.now c.args.b.now) (of_target c.args.cases.now c.args.user.now c.args.host.now)
    c.as_slice-runas-items.result.now c.loop-runas.runas-index c.runas-item.result c.in-Some.i c.loop-runas-test.true c.runas-item.is
    (subst (λ (xs : List (List ℕ)). NoGap (IsAnsweredGap c.args.a.now c.args.b.now) (flat_map (of_target c.args.cases.now c.args.user.now c.args.host.now)
    (take c.loop-runas.runas-index xs))) (sym c.as_slice-runas-items.ensures) c.loop-runas.invariant) (rw c.in-Some.is at c.in_ok-i.ensures))
