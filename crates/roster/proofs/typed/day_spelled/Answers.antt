use Rattle.std.proofs.Common.{◌∙◌, sym}
use Rattle.std.proofs.lemmas.Option.{none-some}
use Rattle.roster.proofs.DayLemmas.{day_is_spelled, none_spelled}
use Rattle.roster.proofs.typed.day_spelled.Goals as goal

pub returns-in-Some : goal.returns-in-Some
returns-in-Some c =
    let found = c.in-Some.ensures.found in
    sym (day_is_spelled c.args.text.now c.in-Some.day found.0 found.1)

pub returns-in-None : goal.returns-in-None
returns-in-None c =
    c.from_number.ensures ∙ sym (none_spelled c.args.text.now (λ day in_days is. none-some day (c.in-None.ensures.only day in_days is)))
