use Rattle.std.proofs.Common.{◌≡◌, ℕ, Bool, if◌then◌else◌, Some, None, List, take, sym, ap, ◌∙◌, subst}
use Rattle.std.specs.List.{flat_map}
use Rattle.sudo_decide.specs.declared.invocation.Invocation.{Invocation}
use Rattle.sudo_beyond.specs.declared.run.Run.{Run}
use Rattle.sudo_beyond.specs.Cases.{of_run}
use Rattle.sudo_beyond.specs.Answer.{FirstOf, IsFirstWith}
use Rattle.sudo_beyond.specs.private.Compared.{IsAnsweredGap}
use Rattle.sudo_beyond.proofs.Gaps.{NoGap, gap_here}
use Rattle.sudo_beyond.proofs.search.try_runs.Goals as goal

pub returns-then-branch : goal.returns-then-branch
returns-then-branch c =
    let P : Invocation → Type 0 = IsAnsweredGap c.args.a.now c.args.b.now in
    let f : Run → List Invocation = of_run c.args.cases.now c.args.first.user c.args.first.host c.args.first.runas in
    let runs : List Run = c.as_slice-run-items.result.now in
    let gap : FirstOf P (of_run c.args.cases.now c.loop-run.i.user c.loop-run.i.host c.loop-run.i.runas c.run-item.result) (Some c.try_run.new.i) =
    subst (λ (b : Bool). FirstOf P (of_run c.args.cases.now c.loop-run.i.user c.loop-run.i.host c.loop-run.i.runas c.run-item.result)
    (if b then Some c.try_run.new.i else None)) c.if-branch.true c.in_ok-try_run.ensures.found in
    let names : of_run c.args.cases.now c.loop-run.i.user c.loop-run.i.host c.loop-run.i.runas c.run-item.result ≡ f c.run-item.result =
    ap (λ (u : List ℕ). of_run c.args.cases.now u c.loop-run.i.host c.loop-run.i.runas c.run-item.result) c.loop-run.invariant.user_is
    ∙ ap (λ (h : List ℕ). of_run c.args.cases.now c.args.first.user h c.loop-run.i.runas c.run-item.result) c.loop-run.invariant.host_is
    ∙ ap (λ (r : List ℕ). of_run c.args.cases.now c.args.first.user c.args.first.host r c.run-item.result) c.loop-run.invariant.runas_is in
    subst (λ (xs : List Run). IsFirstWith P (flat_map f xs) c.try_run.new.i) c.as_slice-run-items.ensures
    (gap_here P f runs c.loop-run.run-index c.run-item.result c.try_run.new.i c.loop-run-test.true c.run-item.is
    (subst (λ (xs : List Run). NoGap P (flat_map f (take c.loop-run.run-index xs))) (sym c.as_slice-run-items.ensures) c.loop-run.invariant.none)
    (subst (λ (is : List Invocation). IsFirstWith P is c.try_run.new.i) names gap))
