use Rattle.std.proofs.Common.{subst}
use Rattle.sudo_policy.specs.declared.entry.Entry.{Entry}
use Rattle.sudo_compiled.specs.private.Writing.{CoversEntry}
use Rattle.sudo_compiled.proofs.Answering.{rule_written}
use Rattle.sudo_compiled.proofs.compiled.push_rule.Goals as goal

pub returns-in_ok-push : goal.returns-in_ok-push
returns-in_ok-push c = λ defined es i covers decided.
    let rule = subst (λ (e : Entry). CoversEntry defined c.args.known.now e) c.in-Rule.is covers in
    rw (c.in-Rule.is, c.in_ok-push.ensures.items)
    (rule_written defined es c.in-Rule.rule c.in_ok-written_rule.field-0 c.args.rules.now.items i (c.in_ok-written_rule.ensures defined rule) decided)
