use Rattle.std.proofs.Common.{◌≡◌, Bool, true}
use Rattle.sudo_beyond.specs.Answer.{AreFew}
use Rattle.sudo_beyond.specs.Beyond.{SomethingBeyond}
use Rattle.std.proofs.lemmas.Result.{IfOk-weaker}
use Rattle.sudo_beyond.proofs.against.is_seen.Goals as goal

pub returns-then-branch : goal.returns-then-branch
returns-then-branch c =
    let Beyond : Type 0 = SomethingBeyond c.args.scope.now c.args.a.now c.args.b.now in
    IfOk-weaker c.is_shown.result (λ (yes : Bool). yes ≡ true → Beyond) (λ (yes : Bool). yes ≡ true
    → AreFew c.args.scope.now c.args.a.now c.args.b.now × Beyond) (λ yes told is. (c.in_ok-are_surely_few.ensures c.if-branch.true, told is)) c.is_shown.ensures
