use Rattle.sudo_policy.specs.Lex.{is_text_byte}
use Rattle.sudo_syntax.proofs.CutLemmas.{cut_is}
use Rattle.sudo_syntax.proofs.token.cut_text.Goals as goal

pub returns : goal.returns
returns c = rw (c.split_at.ensures.front, c.split_at.ensures.back, c.text_len.ensures) (cut_is is_text_byte c.args.bytes.now)
