use Rattle.sudo_syntax.proofs.token.cut_word.Goals as goal

pub returns : goal.returns
returns c = rw (c.split_at.ensures.front, c.split_at.ensures.back) c.word_len.ensures.cut
