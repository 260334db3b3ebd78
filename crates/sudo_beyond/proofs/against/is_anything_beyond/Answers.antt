use Rattle.std.proofs.Common.{Bool, List, IfOk, refl, subst}
use Rattle.std.specs.Bool.{Decides}
use Rattle.sudo_policy.specs.declared.entry.Entry.{Entry}
use Rattle.sudo_beyond.specs.Answer.{AreFew}
use Rattle.sudo_beyond.specs.Beyond.{SomethingBeyond}
use Rattle.sudo_beyond.proofs.against.is_anything_beyond.Goals as goal

pub returns-then-branch-clause-told : goal.returns-then-branch-clause-told
returns-then-branch-clause-told c =
    let seen = c.in_ok-is_seen.ensures c.if-branch.true in
    (seen.0, (λ yes. seen.1, λ there. refl))

pub returns-clause-told : goal.returns-clause-told
returns-clause-told c =
    subst (λ (b : List Entry). IfOk c.is_found.result (λ (yes : Bool). AreFew c.args.scope.now c.args.a.now b
    × Decides yes (SomethingBeyond c.args.scope.now c.args.a.now b))) c.policy.ensures c.is_found.ensures.told
