-- What two compiled policies answer for a case.
use Rattle.std.specs.Prelude.{◌≡◌, List, ◌⊎◌}
use Rattle.sudo_decide.specs.declared.decision.Decision.{Decision}
use Rattle.sudo_decide.specs.declared.decision.Decision.TheVariants.{Deny, Allow, AllowNoPassword}
use Rattle.sudo_decide.specs.declared.invocation.Invocation.{Invocation}
use Rattle.sudo_compiled.specs.declared.plain.PlainRule.{PlainRule}
use Rattle.sudo_compiled.specs.Compiled.{answer}

abbrev pub IsAllowed : Decision → Type 0
IsAllowed d = (d ≡ Allow) ⊎ (d ≡ AllowNoPassword)

-- the first allows it, and the second refuses it
pub record IsAnsweredGap (a b : List PlainRule) (i : Invocation) : Type 0 where
  pub allowed : IsAllowed (answer a i)
  pub refused : answer b i ≡ Deny
