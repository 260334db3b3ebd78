use Rattle.desk.proofs.TextLemmas.{are_texts}
use Rattle.desk.proofs.texts.texts_in.Goals as goal

pub returns : goal.returns
returns c =
    are_texts c.args.set.now c.in_ok-texts.texts.items c.sort_unstable.new.self.items c.dedup.new.self.items
    c.in_ok-texts.ensures c.sort_unstable.ensures.permutation c.sort_unstable.ensures.sorted c.dedup.ensures.filtered
