use Rattle.messages.proofs.Readings.{name_utf8}
use Rattle.store_opening.proofs.CellLemmas.{if_none}
use Rattle.store_opening.proofs.cells.name_at.Goals as goal

pub returns-in_default : goal.returns-in_default
returns-in_default c = λ name is at stray.
    if_none c.in_ok-text.field-0 c.in_default.is c.in_ok-text.ensures.none name at (name_utf8 name is)
