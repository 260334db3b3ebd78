use Rattle.std.proofs.Common.{◌≡◌, ◌++◌, take}
use Rattle.std.specs.Prelude.{string_bytes}
use Rattle.desk_commands.specs.Comparing.{spaced}
use Rattle.desk_commands.proofs.comparing.add_args.Given as goal

abbrev pub invariant-loop-arg : goal.invariant-loop-arg
invariant-loop-arg l = string_bytes l.text ≡ string_bytes l.fn.text ++ spaced (take l.arg-index l.args)
