-- What is read from a line, by the name of its command.
use Rattle.std.specs.Prelude.{◌≡◌, List, Option, Result, IfErr, IfOk, MatchResult, Some}
use Rattle.std.proofs.Common.{subst}
use Rattle.clap.specs.Words.{Row, Text}
use Rattle.desk_args.specs.CommandLine.{SaysJob, SaysBadly}
use Rattle.desk_args.specs.Faults.{IsUsage}
use Rattle.desk_args.specs.declared.fault.JobFault.{JobFault}
use Rattle.desk_args.specs.declared.fault.JobFault.TheVariants.{BadWord, NoMemory}
use Rattle.desk_args.specs.declared.task.Job.{Job}
use Rattle.desk_args.specs.private.Readings.{IsReading}

-- what is read from a command is read from the line that has its name
pub read_by_name : (command name : Text) (rows : List Row) (read : Result Job JobFault) → command ≡ name
    → IfOk read (λ j. SaysJob (Some (command, rows)) j)
    → ((j : Job) → SaysJob (Some (command, rows)) j → MatchResult read (λ k. k ≡ j) (λ e. e ≡ NoMemory))
    → IfErr read (λ e. e ≡ BadWord → SaysBadly (Some (command, rows)))
    → IfErr read (λ e. IsUsage e → ⊥)
    → IsReading (Some (name, rows)) read
read_by_name command name rows read same found only word usage =
    subst (λ (n : Text). IsReading (Some (n, rows)) read) same (record { found = found; only = only; word = word; usage = usage })

-- the line is the one whose name and rows these are
pub read_of_line : (line other : Option (Text × List Row)) (read : Result Job JobFault) → line ≡ other → IsReading other read → IsReading line read
read_of_line line other read same reading = rw same reading
