use Rattle.std.proofs.Common.{List, subst}
use Rattle.sudo_policy.specs.declared.entry.Entry.{Entry}
use Rattle.sudo_beyond.specs.Answer.{AreFew}
use Rattle.sudo_beyond.proofs.Existing.{few_of}
use Rattle.sudo_beyond.proofs.baseline.Baseline.is_small_beside.Goals as goal

pub returns : goal.returns
returns c = λ small s fixed.
    subst (λ (es : List Entry). AreFew s c.args.a.now es) c.self.view_is
    (few_of s c.args.a.now c.self.inside.policy.now c.self.inside.compiled c.in_ok-own.own c.self.inside.size
    c.in_ok-own.ensures.policy c.in_ok-own.ensures.size c.self.invariant fixed (c.makes_few_with.ensures small))
