-- What the statements that read a desk's tables show.
use Rattle.std.specs.Prelude.{List, [], ◌∷◌, map}
use Rattle.std.specs.List.Sorted.{IsPermutation}
use Rattle.sqlite.specs.Order.{Row, column}
use Rattle.sqlite.specs.Effect.{Database}
use Rattle.store_tables.specs.Kept.{table_in}
use Rattle.store_schema.specs.declared.part.DeskPart.{DeskPart}
use Rattle.store_schema.specs.declared.part.DeskPart.TheVariants.{Desk, Messages, Names}
use Rattle.store_schema.specs.declared.part.DeskPart.TheVariants.{Marks, Verdicts, Parked}
use Rattle.store_schema.specs.Parts.{part_name}

-- the columns of a row that the statement shows
abbrev pub shown_of : DeskPart → Row → Row
shown_of Desk r = column r 0 ∷ column r 2 ∷ column r 3 ∷ []
shown_of Messages r = column r 1 ∷ []
shown_of Names r = column r 0 ∷ column r 1 ∷ column r 2 ∷ column r 3 ∷ column r 4 ∷ []
shown_of Marks r = column r 0 ∷ []
shown_of Verdicts r =
    column r 0 ∷ column r 1 ∷ column r 2 ∷ column r 3 ∷ column r 4 ∷ column r 5 ∷ []
shown_of Parked r = column r 0 ∷ column r 1 ∷ column r 2 ∷ column r 3 ∷ []

-- the rows show those of the part's table, in some order
abbrev pub ShowsPart : DeskPart → Database → List Row → Type 0
ShowsPart part db rows = IsPermutation (map (shown_of part) (table_in db (part_name part))) rows

-- the same for the two tables that hold what was given
pub record ShowsTexts (db : Database) (desk messages : List Row) : Type 0 where
  pub desk_is : ShowsPart Desk db desk
  pub messages_are : ShowsPart Messages db messages

-- the same for the three tables whose rows follow from the messages
pub record ShowsRows (db : Database) (names verdicts parked : List Row) : Type 0 where
  pub names_are : ShowsPart Names db names
  pub verdicts_are : ShowsPart Verdicts db verdicts
  pub parked_are : ShowsPart Parked db parked
