-- What the test of the rows computes.
use Rattle.std.specs.Prelude.{ℕ, ℤ, Bool, true, false, not, ◌&&◌, ◌||◌}
use Rattle.std.specs.Prelude.{◌==◌, nat_le, if◌then◌else◌, List, length}
use Rattle.std.specs.List.{list_all, list_any}
use Rattle.std.specs.Ordering.{int_eq}
use Rattle.std.specs.Str.{bytes_eq}
use Rattle.sqlite.specs.declared.types.Value.{Value}
use Rattle.sqlite.specs.declared.types.Value.TheVariants.{Null, Int, Real, Text, Blob}
use Rattle.sqlite.specs.Order.{Row, column}
use Rattle.sqlite.specs.View.{is_int}
use Rattle.messages.specs.Fields.{VerdictFields}
use Rattle.messages.specs.Wire.{wire, kind_text}
use Rattle.messages.specs.declared.message.Message.{Message}
use Rattle.messages.specs.declared.message.Message.TheVariants.{Request, Verdict}
use Rattle.store_schema.specs.declared.part.DeskPart.{DeskPart}
use Rattle.store_schema.specs.declared.part.DeskPart.TheVariants.{Desk, Messages, Names}
use Rattle.store_schema.specs.declared.part.DeskPart.TheVariants.{Marks, Verdicts, Parked}
pub use Rattle.store_opening.specs.Opened.{is_number}

-- ---- values

-- the value is the text
abbrev pub is_text : List ℕ → Value → Bool
is_text text Null = false
is_text text (Int n) = false
is_text text (Real x) = false
is_text text (Text t) = bytes_eq t text
is_text text (Blob b) = false

-- the value is the number
abbrev pub is_integer : ℤ → Value → Bool
is_integer number Null = false
is_integer number (Int n) = int_eq n number
is_integer number (Real x) = false
is_integer number (Text t) = false
is_integer number (Blob b) = false

abbrev pub is_nothing : Value → Bool
is_nothing Null = true
is_nothing (Int n) = false
is_nothing (Real x) = false
is_nothing (Text t) = false
is_nothing (Blob b) = false

-- both are the same text, or the same number, or NULL
abbrev pub agree : Value → Value → Bool
agree Null v = is_nothing v
agree (Int n) v = is_integer n v
agree (Real x) v = false
agree (Text t) v = is_text t v
agree (Blob b) v = false

-- ---- rows

abbrev pub is_same : Row → Row → Bool
is_same r s =
    (length r == length s) && (agree (column r 0) (column s 0)
    && (agree (column r 1) (column s 1) && (agree (column r 2) (column s 2) && (agree (column r 3)
    (column s 3) && (agree (column r 4) (column s 4) && agree (column r 5) (column s 5))))))

abbrev pub is_apart : Row → Row → Bool
is_apart r s = not (agree (column r 0) (column s 0)) || is_same r s

abbrev pub has_rowid : Row → Bool
has_rowid r = is_int (column r 0) && nat_le (length r) 6

abbrev pub is_keyed : List Row → Row → Bool
is_keyed rows r = has_rowid r && list_all (is_apart r) rows

abbrev pub is_once : Row → Row → Bool
is_once r s = not (agree (column r 1) (column s 1) && agree (column r 2) (column s 2))
    || agree (column r 3) (column s 3)

abbrev pub is_of_name : List ℕ → ℕ → Row → Bool
is_of_name asker number r = is_text asker (column r 1) && is_number number (column r 2)

-- ---- messages

abbrev pub is_named : List ℕ → ℕ → Message → Bool
is_named asker number (Request q) = bytes_eq q.by asker && (q.no == number)
is_named asker number (Verdict v) = false

abbrev pub asks : List Message → List ℕ → ℕ → Bool
asks messages asker number = list_any (is_named asker number) messages

abbrev pub is_other : Message → Message → Bool
is_other (Request q) m = is_named q.by q.no m && not (bytes_eq (wire m) (wire (Request q)))
is_other (Verdict v) m = false

abbrev pub is_disputed : List Message → Message → Bool
is_disputed messages of = list_any (is_other of) messages

abbrev pub counts : List Message → Message → Bool
counts messages (Request q) = false
counts messages (Verdict v) = asks messages v.of v.no

abbrev pub waits : List Message → Message → Bool
waits messages (Request q) = false
waits messages (Verdict v) = not (asks messages v.of v.no)

-- ---- rows beside messages

abbrev pub shows_text : Row → Message → Bool
shows_text r (Request q) = (length r == 5) && (is_text q.by (column r 1)
    && (is_number q.no (column r 2) && is_text (wire (Request q)) (column r 3)))
shows_text r (Verdict v) = false

abbrev pub shows_request : List Message → Row → Message → Bool
shows_request messages r m =
    shows_text r m && is_number (if is_disputed messages m then 1 else 0) (column r 4)

abbrev pub is_verdict : Row → VerdictFields → Bool
is_verdict r v =
    (length r == 6) && (is_text v.of (column r 1) && (is_number v.no (column r 2) && (is_text v.by
    (column r 3) && (is_text (kind_text v.kind) (column r 4) && is_number v.at (column r 5)))))

abbrev pub shows_verdict : Row → Message → Bool
shows_verdict r (Request q) = false
shows_verdict r (Verdict v) = is_verdict r v

abbrev pub shows_parked : Row → Message → Bool
shows_parked r (Request q) = false
shows_parked r (Verdict v) = (length r == 4) && (is_text (wire (Verdict v)) (column r 1)
    && (is_text v.of (column r 2) && is_number v.no (column r 3)))

abbrev pub is_name_row : List Message → Row → Bool
is_name_row messages r = list_any (shows_request messages r) messages

abbrev pub is_verdict_row : List Message → Row → Bool
is_verdict_row messages r = list_any (λ m. shows_verdict r m && counts messages m) messages

abbrev pub is_parked_row : List Message → Row → Bool
is_parked_row messages r = list_any (λ m. shows_parked r m && waits messages m) messages

-- the message has its row in the table, if it is to have one there
abbrev pub has_name_row : (names : List Row) → Message → Bool
has_name_row names (Request q) = list_any (is_of_name q.by q.no) names
has_name_row names (Verdict v) = true

abbrev pub has_verdict_row : List Message → (verdicts : List Row) → Message → Bool
has_verdict_row messages verdicts m =
    not (counts messages m) || list_any (λ r. shows_verdict r m) verdicts

abbrev pub has_parked_row : List Message → (parked : List Row) → Message → Bool
has_parked_row messages parked m = not (waits messages m) || list_any (λ r. shows_parked r m) parked

-- ---- tables beside messages

-- the rows of the table are those that follow from the messages
abbrev pub are_rows_of : DeskPart → List Message → List Row → Bool
are_rows_of Desk messages rows = true
are_rows_of Messages messages rows = true
are_rows_of Names messages rows =
    list_all (is_name_row messages) rows
    && (list_all (has_name_row rows) messages && list_all (λ r. list_all (is_once r) rows) rows)
are_rows_of Marks messages rows = true
are_rows_of Verdicts messages rows =
    list_all (is_verdict_row messages) rows && list_all (has_verdict_row messages rows) messages
are_rows_of Parked messages rows =
    list_all (is_parked_row messages) rows && list_all (has_parked_row messages rows) messages

-- the same, and each row has a rowid of its own
abbrev pub is_kept : DeskPart → List Message → List Row → Bool
is_kept part messages rows = are_rows_of part messages rows && list_all (is_keyed rows) rows

-- the same for the three tables that follow from the messages
abbrev pub are_kept : List Message → (names verdicts parked : List Row) → Bool
are_kept messages names verdicts parked = is_kept Names messages names
    && (is_kept Verdicts messages verdicts && is_kept Parked messages parked)
