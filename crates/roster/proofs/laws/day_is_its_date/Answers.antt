use Rattle.roster.proofs.DayLemmas.{day_is_spelled, spelled_is_day}
use Rattle.roster.proofs.laws.day_is_its_date.Goals as goal

pub returns-clause-read : goal.returns-clause-read
returns-clause-read c = day_is_spelled

pub returns-clause-only : goal.returns-clause-only
returns-clause-only c = spelled_is_day
