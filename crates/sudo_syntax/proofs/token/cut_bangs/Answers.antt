use Rattle.sudo_policy.specs.private.Cuts.{is_bang}
use Rattle.sudo_syntax.proofs.CutLemmas.{cut_is}
use Rattle.sudo_syntax.proofs.token.cut_bangs.Goals as goal

pub returns : goal.returns
returns c = rw (c.split_at.ensures.front, c.split_at.ensures.back, c.bang_len.ensures) (cut_is is_bang c.args.bytes.now)
