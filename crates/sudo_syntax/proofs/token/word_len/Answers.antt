use Rattle.std.proofs.Common.{◌++◌, refl}
use Rattle.sudo_syntax.proofs.WordLemmas.{front_more, front_end}
use Rattle.sudo_syntax.proofs.token.word_len.Goals as goal

pub loop-after-preserved : goal.loop-after-preserved
loop-after-preserved c =
    let front = c.loop-after.invariant in
    let part = c.in-Some.ensures.found in
    (front.0 ++ part.0, front_more _ _ _ _ _ front.1 part.1)

pub returns-clause-cut : goal.returns-clause-cut
returns-clause-cut c = front_end _ _ _ c.loop-after.invariant.1 (c.in_default.ensures.none refl)
