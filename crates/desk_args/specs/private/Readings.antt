-- How the job that a line says is read. For private clauses.
use Rattle.std.specs.Prelude.{◌≡◌, List, Option, Result, IfErr, IfOk, MatchResult}
use Rattle.clap.specs.Words.{Row, Text}
use Rattle.desk_args.specs.CommandLine.{SaysJob, SaysBadly}
use Rattle.desk_args.specs.Faults.{IsUsage}
use Rattle.desk_args.specs.declared.fault.JobFault.{JobFault}
use Rattle.desk_args.specs.declared.fault.JobFault.TheVariants.{BadWord, NoMemory}
use Rattle.desk_args.specs.declared.task.Job.{Job}

-- What is read is the job that the line says, unless memory runs out, and `BadWord` comes only
-- where a value is not of its form.
pub record IsReading (line : Option (Text × List Row)) (read : Result Job JobFault) : Type 0 where
  pub found : IfOk read (λ j. SaysJob line j)
  pub only : (j : Job) → SaysJob line j → MatchResult read (λ k. k ≡ j) (λ e. e ≡ NoMemory)
  pub word : IfErr read (λ e. e ≡ BadWord → SaysBadly line)
  pub usage : IfErr read (λ e. IsUsage e → ⊥)
