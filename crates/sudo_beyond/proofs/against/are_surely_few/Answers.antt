use Rattle.std.proofs.Common.{◌≡◌, Bool, true}
use Rattle.sudo_decide.specs.declared.scope.Scope.{Scope}
use Rattle.sudo_beyond.specs.Answer.{AreFew}
use Rattle.sudo_beyond.specs.private.Baselines.{FixesNames}
use Rattle.std.proofs.lemmas.Result.{IfOk-weaker}
use Rattle.sudo_beyond.proofs.against.are_surely_few.Goals as goal

pub returns-then-fixes_names : goal.returns-then-fixes_names
returns-then-fixes_names c =
    IfOk-weaker c.is_small_beside.result (λ (small : Bool). small ≡ true → (s : Scope) → FixesNames s → AreFew s c.args.a.now c.args.b.now)
    (λ (few : Bool). few ≡ true → AreFew c.args.scope.now c.args.a.now c.args.b.now)
    (λ small told is. told is c.args.scope.now (c.fixes_names.ensures c.if-fixes_names.true)) c.is_small_beside.ensures
