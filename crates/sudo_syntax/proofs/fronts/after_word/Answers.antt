use Rattle.std.proofs.Common.{◌≡◌, rules}
use Rattle.sudo_syntax.proofs.FirstTokens.{one_token, same_word}
use Rattle.sudo_syntax.proofs.fronts.after_word.Goals as goal

pub returns-then-eq : goal.returns-then-eq
returns-then-eq c =
    let same : c.in_ok-plain_word.field-0.now ≡ c.args.kind.now = search rules in
    (_, one_token c.args.tokens.now _ _ c.in-len1-up.len_at_least (same_word _ c.in_ok-plain_word.ensures same))
