-- How the program ends.
use Rattle.std.specs.Prelude.{ℕ}
use Rattle.desk_args.specs.declared.status.ExitStatus.{ExitStatus}
use Rattle.desk_args.specs.declared.status.ExitStatus.TheVariants.{Denied, Done, Found}
use Rattle.desk_args.specs.declared.status.ExitStatus.TheVariants.{LinesRefused, Refused}

-- the program's exit status
abbrev pub exit_status : ExitStatus → ℕ
exit_status Done = 0
exit_status Denied = 1
exit_status Found = 1
exit_status LinesRefused = 2
exit_status Refused = 2
