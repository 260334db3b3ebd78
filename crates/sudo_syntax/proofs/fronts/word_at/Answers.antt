use Rattle.std.proofs.Common.{ap}
use Rattle.sudo_syntax.specs.private.Tokens.{kind_tok}
use Rattle.sudo_syntax.proofs.FirstTokens.{one_token}
use Rattle.sudo_syntax.proofs.fronts.word_at.Goals as goal

pub returns-in-Word-clause-found : goal.returns-in-Word-clause-found
returns-in-Word-clause-found c = (_, one_token c.args.tokens.now _ _ c.in-len1-up.len_at_least (ap (kind_tok _) c.in-Word.is))
