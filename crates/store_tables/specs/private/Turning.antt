-- What several statements of a transaction do to a desk's tables.
use Rattle.std.specs.Prelude.{◌≡◌, ◌⊎◌, Some, IsTrue, Bool, true, false, List, ℕ, codes}
use Rattle.std.specs.FinSet as set
use Rattle.sqlite.specs.declared.types.Value.{Value}
use Rattle.sqlite.specs.declared.types.Value.TheVariants.{Text}
use Rattle.sqlite.specs.Order.{Row, column}
use Rattle.sqlite.specs.Effect.{Database, IsDatabase}
use Rattle.sqlite.specs.State.{State}
use Rattle.sqlite_rules.specs.Lists.{Has}
use Rattle.messages.specs.Fields.{RequestFields, VerdictFields}
use Rattle.messages.specs.declared.request_name.RequestName.{RequestName}
use Rattle.messages.specs.Wire.{wire, IsMessage}
use Rattle.messages.specs.declared.message.Message.{Message}
use Rattle.messages.specs.declared.message.Message.TheVariants.{Verdict}
use Rattle.store_tables.specs.Rows.{RowSet, IsRow, OfName, verdict_row}
use Rattle.store_tables.specs.Stored.{Texts, content_of, has, recorded, with_roster, with_text}
use Rattle.store_tables.specs.private.Changes.{Gains, Joins, Loses, Names}
use Rattle.store_tables.specs.Kept.{HasRows, IsDeskDatabase, IsTidy, Spares, table_in}

-- the rows are those that were there
abbrev pub Stays : List Row → List Row → Type 0
Stays old new = new ≡ old

-- `Rows` relates the values of the rows
abbrev pub Rowwise : (RowSet → RowSet → Type 0) → List Row → List Row → Type 0
Rowwise Rows old new = Rows (IsRow old) (IsRow new)

-- The three tables of rows were changed as `N`, `V` and `P` say; the roster's row and the messages
-- are as they were.
pub record Turns (N V P : List Row → List Row → Type 0) (old new : Database) : Type 0 where
  pub sound : IsDatabase old → IsDatabase new
  pub schema : new.schema ≡ old.schema
  pub tidy : IsTidy new
  pub names : N (table_in old (codes "names")) (table_in new (codes "names"))
  pub verdicts : V (table_in old (codes "verdicts")) (table_in new (codes "verdicts"))
  pub parked : P (table_in old (codes "parked")) (table_in new (codes "parked"))
  pub desk : table_in new (codes "desk") ≡ table_in old (codes "desk")
  pub messages : table_in new (codes "messages") ≡ table_in old (codes "messages")
  pub spares : Spares old new

-- the same, in a transaction that goes on
pub record Turned (N V P : List Row → List Row → Type 0) (old new : State) : Type 0 where
  pub mode : IsTrue new.in_transaction
  pub turns : IsTidy old.now → Turns N V P old.now new.now

-- the row shows the verdict's text
abbrev pub ShowsVerdict : Row → VerdictFields → Type 0
ShowsVerdict x v = IsMessage (Verdict v) × (column x 0 ≡ Text (wire (Verdict v)))

-- the verdict that the row shows was added to the verdicts
abbrev pub JoinsOne : Row → RowSet → RowSet → Type 0
JoinsOne x old new = (v : VerdictFields) × ShowsVerdict x v × Gains (verdict_row v) old new

-- the verdict of each of these rows, and no other, was added to the verdicts
pub record JoinsAll (rows : List Row) (old new : RowSet) : Type 0 where
  pub each : (r : List Value) → new r → old r
      ⊎ ((v : VerdictFields) × (x : Row) × Has rows x × ShowsVerdict x v × (r ≡ verdict_row v))
  pub kept : (r : List Value) → old r → new r
  pub joined : (x : Row) → Has rows x → (v : VerdictFields) × ShowsVerdict x v × new (verdict_row v)

-- the request's row replaced the row of its name, if any, and tells whether there was one
abbrev pub Renames : RequestFields → RowSet → RowSet → Type 0
Renames q old new = (told : Bool) × Names q told old new

-- The name's parked verdicts were moved to the verdicts.
pub record JoinsParked (name : RequestName) (old new : Database) : Type 0 where
  pub sound : IsDatabase old → IsDatabase new
  pub schema : new.schema ≡ old.schema
  pub tidy : IsTidy new
  pub names : table_in new (codes "names") ≡ table_in old (codes "names")
  pub verdicts : Joins name (IsRow (table_in old (codes "parked")))
      (IsRow (table_in old (codes "verdicts"))) (IsRow (table_in new (codes "verdicts")))
  pub parked : Loses (OfName 1 name) (IsRow (table_in old (codes "parked")))
      (IsRow (table_in new (codes "parked")))
  pub desk : table_in new (codes "desk") ≡ table_in old (codes "desk")
  pub messages : table_in new (codes "messages") ≡ table_in old (codes "messages")
  pub spares : Spares old new

pub record JoinedParked (name : RequestName) (old new : State) : Type 0 where
  pub mode : IsTrue new.in_transaction
  pub joins : IsTidy old.now → JoinsParked name old.now new.now

-- A new message was settled: if the rows were those of the messages without it, they are now those
-- of the messages with it.
pub record Settles (m : Message) (old new : Database) : Type 0 where
  pub sound : IsDatabase old → IsDatabase new
  pub schema : new.schema ≡ old.schema
  pub tidy : IsTidy new
  pub rows : (texts : Texts) → set.contains texts (wire m) ≡ false
      → HasRows texts old → HasRows (set.insert texts (wire m)) new
  pub desk : table_in new (codes "desk") ≡ table_in old (codes "desk")
  pub messages : table_in new (codes "messages") ≡ table_in old (codes "messages")
  pub spares : Spares old new

pub record Settled (m : Message) (old new : State) : Type 0 where
  pub mode : IsTrue new.in_transaction
  pub settles : IsTidy old.now → Settles m old.now new.now

-- The message was taken in: the desk has its text too.
pub record Receives (text : List ℕ) (old new : Database) : Type 0 where
  pub sound : IsDatabase new
  pub desk : IsDeskDatabase new
  pub content : content_of new ≡ with_text text (content_of old)
  pub spares : Spares old new

-- The message was taken in; if it was there already, nothing changed.
pub record Received (text : List ℕ) (old new : State) : Type 0 where
  pub was_open : IsTrue old.is_open
  pub mode : IsTrue new.in_transaction
  pub receives : IsDatabase old.now → IsDeskDatabase old.now → Receives text old.now new.now
  pub repeats : IsDeskDatabase old.now → has (content_of old.now) text ≡ true → new.now ≡ old.now

-- The roster's text was recorded in place of the one before; the rows and the messages are as they
-- were.
pub record Records (roster : List ℕ) (old new : Database) : Type 0 where
  pub sound : IsDatabase new
  pub tidy : IsTidy new
  pub row : recorded (table_in new (codes "desk")) ≡ Some roster
  pub names : table_in new (codes "names") ≡ table_in old (codes "names")
  pub verdicts : table_in new (codes "verdicts") ≡ table_in old (codes "verdicts")
  pub parked : table_in new (codes "parked") ≡ table_in old (codes "parked")
  pub messages : table_in new (codes "messages") ≡ table_in old (codes "messages")
  pub spares : Spares old new

pub record Recorded (roster : List ℕ) (old new : State) : Type 0 where
  pub was_open : IsTrue old.is_open
  pub mode : IsTrue new.in_transaction
  pub records : IsDeskDatabase old.now → Records roster old.now new.now

-- The desk has another roster text, with the messages that it had, and their rows.
pub record Replaces (roster : List ℕ) (old new : Database) : Type 0 where
  pub sound : IsDatabase new
  pub desk : IsDeskDatabase new
  pub content : content_of new ≡ with_roster roster (content_of old)
  pub spares : Spares old new
