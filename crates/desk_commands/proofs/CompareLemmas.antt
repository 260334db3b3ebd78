-- Why files are not compared.
use Rattle.std.proofs.Common.{◌≡◌, ℕ, List, refl}
use Rattle.sudo_policy.specs.Spelling.{Spells}
use Rattle.sudo_policy.specs.declared.entry.Entry.{Entry}
use Rattle.sudo_beyond.specs.Answer.{AreTooMany}
use Rattle.sudo_beyond.specs.declared.fault.BeyondFault.{BeyondFault}
use Rattle.sudo_beyond.specs.declared.fault.BeyondFault.TheVariants.{NoMemory, TooManyCases}
use Rattle.sudo_decide.specs.declared.scope.Scope.{Scope}
use Rattle.desk_commands.specs.Comparing.{EndsComparing}
use Rattle.desk_commands.specs.declared.refusal.JobRefusal.TheVariants.{Beyond}

pub ends_comparing : (scope : Scope) (a_file b_file : List ℕ) (a b : List Entry) → Spells a_file a → Spells b_file b → (fault : BeyondFault)
    → (fault ≡ TooManyCases → AreTooMany scope a b) → EndsComparing scope a_file b_file (Beyond fault)
ends_comparing scope a_file b_file a b of_a of_b TooManyCases many = record {
  a = a;
  b = b;
  a_spelled = of_a;
  b_spelled = of_b;
  many = many refl;
}
ends_comparing scope a_file b_file a b of_a of_b NoMemory many = tt
