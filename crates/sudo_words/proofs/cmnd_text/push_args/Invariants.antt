use Rattle.std.proofs.Common.{◌≡◌, ◌++◌, take}
use Rattle.std.specs.Prelude.{string_bytes}
use Rattle.std.specs.List.{flat_map}
use Rattle.sudo_words.specs.Command.{spaced_arg}
use Rattle.sudo_words.proofs.cmnd_text.push_args.Given as goal

abbrev pub invariant-loop-arg : goal.invariant-loop-arg
invariant-loop-arg l = string_bytes l.out ≡ string_bytes l.fn.out ++ flat_map spaced_arg (take l.arg-index l.args)
