use Rattle.std.proofs.Common.{◌∙◌, refl, sym}
use Rattle.sudo_words.specs.declared.cmnd.ArgRule.TheVariants.{Empty}
use Rattle.sudo_words.proofs.PieceLemmas.{one_rule}
use Rattle.sudo_words.proofs.cmnd_text.args_rule.Goals as goal

pub returns-then-is_no_args-clause-only : goal.returns-then-is_no_args-clause-only
returns-then-is_no_args-clause-only c = λ r h e. one_rule Empty r tt h (sym (c.if-is_no_args.ensures.0 refl) ∙ e)
