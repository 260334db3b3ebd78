use Rattle.std.proofs.Common.{◌≡◌, ◌++◌, map}
use Rattle.sudo_beyond.specs.Cases.{run_of}
use Rattle.sudo_beyond.proofs.runs.push_each.Given as goal

abbrev pub invariant-loop-args : goal.invariant-loop-args
invariant-loop-args l = l.runs.items ≡ l.fn.runs.items ++ map (run_of l.path) l.yielded
