-- Why a host gets no file: codes and names.
use Rattle.std.specs.Prelude.{ℕ, List, codes}
use Rattle.grants.specs.declared.host_fault.HostFault.{HostFault}
use Rattle.grants.specs.declared.host_fault.HostFault.TheVariants.{TooManyRules, NoMemory}

-- the most lines that a host's file has after those of its base
abbrev pub most_lines : ℕ
most_lines = 8_192

-- how a fault is printed
abbrev pub host_fault_text : HostFault → List ℕ
host_fault_text TooManyRules = codes "G1 TooManyRules"
host_fault_text NoMemory = codes "G2 NoMemory"
