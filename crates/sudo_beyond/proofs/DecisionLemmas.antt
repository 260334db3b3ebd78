-- A policy does not both allow and refuse.
use Rattle.std.proofs.Common.{◌≡◌, List, reverse, inl, inr}
use Rattle.sudo_policy.specs.declared.entry.Entry.{Entry}
use Rattle.sudo_decide.specs.declared.decision.Decision.TheVariants.{Deny, Allow, AllowNoPassword}
use Rattle.sudo_decide.specs.declared.invocation.Invocation.{Invocation}
use Rattle.sudo_decide.specs.Decision.{Decides}
use Rattle.sudo_decide.proofs.Speakers.{one_decision}
use Rattle.sudo_beyond.specs.Beyond.{Allows}

allow_is_no_deny : Allow ≡ Deny → ⊥
allow_is_no_deny same = cc

no_password_is_no_deny : AllowNoPassword ≡ Deny → ⊥
no_password_is_no_deny same = cc

pub not_both : (es : List Entry) (i : Invocation) → Allows es i → Decides es i Deny → ⊥
not_both es i (inl allow) deny = allow_is_no_deny (one_decision (reverse es) es i Allow Deny allow deny)
not_both es i (inr allow) deny = no_password_is_no_deny (one_decision (reverse es) es i AllowNoPassword Deny allow deny)
