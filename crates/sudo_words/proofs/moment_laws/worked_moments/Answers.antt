use Rattle.sudo_words.proofs.WorkedMoments.{ahead, before_first, behind, day_before_first, hour_24, hours_alone, last_with_minus, last_with_plus, past_last}
use Rattle.sudo_words.proofs.moment_laws.worked_moments.Goals as goal

pub returns : goal.returns
returns c = record {
  ahead = ahead;
  behind = behind;
  day_before_first = day_before_first;
  last_with_plus = last_with_plus;
  last_with_minus = last_with_minus;
  before_first = before_first;
  past_last = past_last;
  hour_24 = hour_24;
  hours_alone = hours_alone;
}
