use Rattle.std.proofs.Common.{get_or, [], ◌∷◌, sym, arith}
use Rattle.sudo_syntax.proofs.TokenLemmas.{first_is}
use Rattle.sudo_syntax.proofs.token.behind_part.Goals as goal

pub returns-in-len1-up-clause-found : goal.returns-in-len1-up-clause-found
returns-in-len1-up-clause-found c =
    let s = c.args.bytes.now in
    (get_or s 0 0 ∷ [], record { whole = first_is s c.in-len1-up.len_at_least; text = sym c.if-is_word_byte.ensures; some = omega arith })
