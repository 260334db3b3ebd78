-- The statements that read a desk's tables.
use Rattle.std.specs.Prelude.{List, ℕ, codes}
use Rattle.store_schema.specs.declared.part.DeskPart.{DeskPart}
use Rattle.store_schema.specs.declared.part.DeskPart.TheVariants.{Desk, Messages, Names}
use Rattle.store_schema.specs.declared.part.DeskPart.TheVariants.{Marks, Verdicts, Parked}

abbrev pub select_of : DeskPart → List ℕ
select_of Desk = codes "SELECT id, schema, roster FROM desk"
select_of Messages = codes "SELECT body FROM messages"
select_of Names = codes "SELECT rowid, asker, no, body, disputed FROM names"
select_of Marks = codes "SELECT rowid FROM marks"
select_of Verdicts = codes "SELECT rowid, asker, no, person, kind, at FROM verdicts"
select_of Parked = codes "SELECT rowid, body, asker, no FROM parked"
