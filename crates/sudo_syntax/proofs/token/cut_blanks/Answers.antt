use Rattle.sudo_policy.specs.Lex.{is_blank}
use Rattle.sudo_syntax.proofs.CutLemmas.{cut_is}
use Rattle.sudo_syntax.proofs.token.cut_blanks.Goals as goal

pub returns : goal.returns
returns c = rw (c.split_at.ensures.front, c.split_at.ensures.back, c.blank_len.ensures) (cut_is is_blank c.args.bytes.now)
