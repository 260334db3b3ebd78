use Rattle.std.proofs.Common.{List, Bor, ℕ}
use Rattle.clap.specs.Words.{Rule}
use Rattle.desk_args.specs.CommandLine as line
use Rattle.desk_args.proofs.Building.{next_pushed}
use Rattle.desk_args.proofs.command.push_options.Goals as goal

abbrev rule_of : Bor (List ℕ) × Bor (List ℕ) × Bor (List ℕ) → Rule
rule_of option = line.optional option.0.now option.1.now

pub loop-id-preserved : goal.loop-id-preserved
loop-id-preserved c rules has =
    rw (c.in_ok-push.ensures.items) (next_pushed rule_of c.loop-id.args.items rules c.args.options.now c.loop-id.id-index _
    c.optional.result c.loop-id-test.true (c.loop-id.invariant rules has) (c.optional.ensures.rule, c.optional.ensures.global))
