-- How the program's refusals are shown.
use Rattle.std.specs.Prelude.{ℕ, List, codes}
use Rattle.sudo_policy.specs.Faults.{read_fault_text}
use Rattle.roster.specs.Faults.{roster_fault_text}
use Rattle.sudo_beyond.specs.Faults.{beyond_fault_text}
use Rattle.desk.specs.Refusals.{refusal_text}
use Rattle.desk_commands.specs.declared.refusal.JobRefusal.{JobRefusal}
use Rattle.desk_commands.specs.declared.refusal.JobRefusal.TheVariants.{BadWord, Beyond, Desk}
use Rattle.desk_commands.specs.declared.refusal.JobRefusal.TheVariants.{FileFailed, NoMemory}
use Rattle.desk_commands.specs.declared.refusal.JobRefusal.TheVariants.{Policy, Roster}

-- the refusal's code and name: a roster's fault, a comparison's and the desk's refusal as these
-- show them, and a policy's fault with its line
abbrev pub job_refusal_text : JobRefusal → List ℕ
job_refusal_text FileFailed = codes "F1 FileFailed"
job_refusal_text BadWord = codes "F2 BadWord"
job_refusal_text NoMemory = codes "NoMemory"
job_refusal_text (Roster fault) = roster_fault_text fault
job_refusal_text (Policy fault) = read_fault_text fault
job_refusal_text (Beyond fault) = beyond_fault_text fault
job_refusal_text (Desk refusal) = refusal_text refusal
