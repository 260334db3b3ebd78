use Rattle.sudo_syntax.proofs.FirstTokens.{two_tokens}
use Rattle.sudo_syntax.proofs.fronts.head_at.Goals as goal

pub returns-in-Some-clause-found : goal.returns-in-Some-clause-found
returns-in-Some-clause-found c =
    (_, _, two_tokens c.args.tokens.now _ _ _ c.in-len2-up.len_at_least c.in-Some.ensures (c.is_mark.ensures.yes c.if-is_mark.true))
