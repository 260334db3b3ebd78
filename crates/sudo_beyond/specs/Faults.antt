-- The codes and names that faults are shown as.
use Rattle.std.specs.Prelude.{ℕ, List, codes}
use Rattle.sudo_beyond.specs.declared.fault.BeyondFault.{BeyondFault}
use Rattle.sudo_beyond.specs.declared.fault.BeyondFault.TheVariants.{TooManyCases, NoMemory}

abbrev pub beyond_fault_text : BeyondFault → List ℕ
beyond_fault_text TooManyCases = codes "B1 TooManyCases"
beyond_fault_text NoMemory = codes "B2 NoMemory"
