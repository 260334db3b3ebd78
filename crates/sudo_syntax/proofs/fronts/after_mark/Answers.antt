use Rattle.sudo_syntax.proofs.FirstTokens.{one_token}
use Rattle.sudo_syntax.proofs.fronts.after_mark.Goals as goal

pub returns-in-len1-up-clause-found : goal.returns-in-len1-up-clause-found
returns-in-len1-up-clause-found c = (_, one_token c.args.tokens.now _ _ c.in-len1-up.len_at_least (c.is_mark.ensures.yes c.if-is_mark.true))
