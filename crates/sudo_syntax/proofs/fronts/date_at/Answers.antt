use Rattle.std.proofs.Common.{ap, ◌∙◌}
use Rattle.sudo_words.specs.Bytes.{equals}
use Rattle.sudo_policy.specs.Lex.{word, mark}
use Rattle.sudo_syntax.proofs.FirstTokens.{three_tokens}
use Rattle.sudo_syntax.proofs.fronts.date_at.Goals as goal

pub returns-in-Some-Some-clause-found : goal.returns-in-Some-Some-clause-found
returns-in-Some-Some-clause-found c =
    let both = c.in-Some-Some in (
      _,
      three_tokens c.args.tokens.now _ _ _ _ c.in-len3-up.len_at_least both.ensures
          (c.is_mark.ensures.yes c.if-is_mark.true ∙ ap (λ s. mark s equals) c.if-not-sign.true)
          (both.ensures' ∙ ap (λ s. word s 0 both.text.now) c.if-not-time.true),
    )
