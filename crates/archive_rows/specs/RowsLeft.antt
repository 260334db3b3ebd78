-- What a cut of a desk's messages leaves of its table `verdicts`.
use Rattle.std.specs.Prelude.{◌≡◌, ◌↔◌, ℕ, List, Contains}
use Rattle.sqlite.specs.declared.types.Value.{Value}
use Rattle.sqlite.specs.Order.{Row}
use Rattle.messages.specs.Fields.{VerdictFields}
use Rattle.messages.specs.declared.message.Message.{Message}
use Rattle.messages.specs.declared.message.Message.TheVariants.{Verdict}
use Rattle.store_tables.specs.Rows.{IsRow, verdict_row}
use Rattle.archive.specs.Archive.{IsOver}

-- the values are those of the row of a verdict of the set that is over at the moment
pub record IsOverRow (messages : List Message) (moment : ℕ) (values : List Value) : Type 0 where
  pub verdict : VerdictFields
  pub given : Contains messages (Verdict verdict)
  pub over : IsOver messages moment (Verdict verdict)
  pub row_is : values ≡ verdict_row verdict

-- the second table has the rows of the first one without those
abbrev pub AreLeft : List Message → ℕ → (old new : List Row) → Type 0
AreLeft messages moment old new = (values : List Value)
    → IsRow new values ↔ (IsRow old values × (¬ IsOverRow messages moment values))
