use Rattle.std.proofs.Common.{Some, ap, ◌∙◌}
use Rattle.clap.specs.Walk.{Rule, rule_of}
use Rattle.clap.specs.declared.builder.action.ArgAction.TheVariants.{Set}
use Rattle.clap.specs.declared.builder.arg.Arg.{Arg}
use Rattle.desk_args.proofs.command.optional.Goals as goal

pub returns-clause-rule : goal.returns-clause-rule
returns-clause-rule c =
    ap rule_of c.help.ensures ∙ ap rule_of c.action.ensures
    ∙ ap (λ (a : Arg). record (rule_of a) { action = Some Set }) c.long.ensures
    ∙ ap (λ (r : Rule). record r { long = Some c.args.long.now; action = Some Set }) c.new.ensures.rule

pub returns-clause-global : goal.returns-clause-global
returns-clause-global c =
    ap (λ (a : Arg). a.global) c.help.ensures ∙ ap (λ (a : Arg). a.global) c.action.ensures ∙ ap (λ (a : Arg). a.global) c.long.ensures
    ∙ c.new.ensures.optional.1
