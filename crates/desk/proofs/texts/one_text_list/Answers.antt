use Rattle.desk.proofs.TextLemmas.{one_set, one_texts}
use Rattle.desk.proofs.texts.one_text_list.Goals as goal

pub returns : goal.returns
returns c = record {
  texts = one_texts;
  set = one_set;
}
