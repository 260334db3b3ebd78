use Rattle.std.proofs.Common.{◌++◌, List, map, take}
use Rattle.clap.specs.Words.{Rule}
use Rattle.desk_args.specs.CommandLine as line
use Rattle.desk_args.specs.private.Commands.{HasRules}
use Rattle.desk_args.proofs.command.push_wanted.Given as goal

-- The arguments of the names so far are added.
abbrev pub invariant-loop-id : goal.invariant-loop-id
invariant-loop-id l =
    (rules : List Rule) → HasRules l.initial.args.items rules → HasRules l.args.items (rules ++ map (λ n. line.wanted n.0.now) (take l.id-index l.names))
