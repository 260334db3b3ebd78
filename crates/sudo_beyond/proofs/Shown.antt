-- What a policy allows and another refuses lies beyond it.
use Rattle.std.proofs.Common.{Option, Some, None, IfSome, MatchOption, List}
use Rattle.sudo_policy.specs.declared.entry.Entry.{Entry}
use Rattle.sudo_decide.specs.declared.decision.Decision.TheVariants.{Deny}
use Rattle.sudo_decide.specs.declared.invocation.Invocation.{Invocation}
use Rattle.sudo_decide.specs.declared.scope.Scope.{Scope}
use Rattle.sudo_decide.specs.Decision.{Decides}
use Rattle.sudo_beyond.specs.Beyond.{LiesBeyond, SomethingBeyond}
use Rattle.sudo_beyond.specs.private.Baselines.{IsAllowedIn}

pub where_allowed : (s : Scope) (a b : List Entry) (found : Option Invocation)
    → MatchOption found (SomethingBeyond s a b → ⊥) (LiesBeyond s a b) → IfSome found (IsAllowedIn s a)
where_allowed s a b None none = tt
where_allowed s a b (Some i) lies = record { form = lies.form; scope = lies.scope; allowed = lies.gap.allowed }

pub shown : (s : Scope) (a b : List Entry) (i : Invocation) → IsAllowedIn s a i → Decides b i Deny → SomethingBeyond s a b
shown s a b i is refused = (i, record { form = is.form; scope = is.scope; gap = record { allowed = is.allowed; refused = refused } })
