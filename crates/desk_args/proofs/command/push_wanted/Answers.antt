use Rattle.std.proofs.Common.{List, Bor, ℕ}
use Rattle.clap.specs.Words.{Rule}
use Rattle.desk_args.specs.CommandLine as line
use Rattle.desk_args.proofs.Building.{next_pushed}
use Rattle.desk_args.proofs.command.push_wanted.Goals as goal

abbrev rule_named : Bor (List ℕ) × Bor (List ℕ) → Rule
rule_named name = line.wanted name.0.now

pub loop-id-preserved : goal.loop-id-preserved
loop-id-preserved c rules has =
    rw (c.in_ok-push.ensures.items)
    (next_pushed rule_named c.loop-id.args.items rules c.args.names.now c.loop-id.id-index _ c.wanted.result c.loop-id-test.true (c.loop-id.invariant rules has)
    (c.wanted.ensures.rule, c.wanted.ensures.global))
