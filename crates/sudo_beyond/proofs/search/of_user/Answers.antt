use Rattle.std.proofs.Common.{ℕ, List, take, sym, subst}
use Rattle.std.specs.List.{flat_map}
use Rattle.sudo_beyond.specs.Cases.{of_host}
use Rattle.sudo_beyond.specs.Answer.{IsFirstWith}
use Rattle.sudo_beyond.specs.private.Compared.{IsAnsweredGap}
use Rattle.sudo_beyond.proofs.Gaps.{NoGap, gap_here}
use Rattle.sudo_beyond.proofs.search.of_user.Goals as goal

pub returns-in-Some : goal.returns-in-Some
returns-in-Some c =
    subst (λ (xs : List (List ℕ)). IsFirstWith (IsAnsweredGap c.args.a.now c.args.b.now) (flat_map (of_host c.args.cases.now c.args.user.now) xs) c.in-Some.i)
    c.as_slice-host-items.ensures (gap_here (IsAnsweredGap c.args.a.now c.args.b.now) (of_host c.args.cases.now c.args.user.now)
    c.as_slice-host-items.result.now c.loop-host.host-index c.host-item.result c.in-Some.i c.loop-host-test.true c.host-item.is (subst (λ (xs : List (List ℕ)).
    NoGap (IsAnsweredGap c.args.a.now c.args.b.now) (flat_map (of_host c.args.cases.now c.args.user.now) (take c.loop-host.host-index xs)))
    (sym c.as_slice-host-items.ensures) c.loop-host.invariant) (rw c.in-Some.is at c.in_ok-i.ensures))
