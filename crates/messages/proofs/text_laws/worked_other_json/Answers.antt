use Rattle.messages.proofs.WorkedTexts.{space_other, fraction_other, minus_zero_other, twice_other, order_other, escape_other}
use Rattle.messages.proofs.text_laws.worked_other_json.Goals as goal

pub returns : goal.returns
returns c = record {
  space = space_other;
  fraction = fraction_other;
  minus_zero = minus_zero_other;
  twice = twice_other;
  order = order_other;
  escape = escape_other;
}
