-- The rows of what a cut keeps.
use Rattle.std.proofs.Common.{◌≡◌, ℕ, pos, ℤ, Bool, true, false, List, refl, sym, subst}
use Rattle.std.specs.List.{Contains}
use Rattle.sqlite.specs.declared.types.Value.{Value}
use Rattle.sqlite.specs.declared.types.Value.TheVariants.{Int, Text}
use Rattle.sqlite.specs.Order.{Row}
use Rattle.messages.specs.Fields.{RequestFields, VerdictFields}
use Rattle.messages.specs.Names.{name_meant}
use Rattle.messages.specs.declared.request_name.RequestName.{RequestName}
use Rattle.messages.specs.declared.message.Message.{Message}
use Rattle.messages.specs.declared.message.Message.TheVariants.{Verdict}
use Rattle.store_tables.specs.Rows.{AreRows, Asks, IsMarked, IsRow, verdict_row}
use Rattle.archive.specs.Archive.{HasEnded, IsCut}
use Rattle.archive.proofs.Cuts.{asked_back, asked_to}
use Rattle.archive_rows.specs.RowsLeft.{AreLeft}

same_text : (a b : List ℕ) → ◌≡◌ {A = Value} (Text a) (Text b) → a ≡ b
same_text a b e = cc

same_number : (a b : ℕ) → ◌≡◌ {A = Value} (Int (pos a)) (Int (pos b)) → a ≡ b
same_number a b e = let same : ◌≡◌ {A = ℤ} (pos a) (pos b) = cc in cc

-- verdicts with the same row are about the same name
same_name : (v w : VerdictFields) → verdict_row v ≡ verdict_row w → name_meant v ≡ name_meant w
same_name v w e =
    let of : v.of ≡ w.of = same_text v.of w.of cc in
    let no : v.no ≡ w.no = same_number v.no w.no cc in
    rw (of, no) refl

module _ (set kept : List Message) (moment : ℕ) (cut : IsCut set moment kept) where
  abbrev S : Message → Type 0
  S m = Contains set m

  abbrev K : Message → Type 0
  K m = Contains kept m

  asks_to : (name : RequestName) → Asks S name → Asks K name
  asks_to name a = (a.0, asked_to set kept moment cut a.0 a.1, a.2)

  asks_back : (name : RequestName) → Asks K name → Asks S name
  asks_back name a = (a.0, asked_back set kept moment cut a.0 a.1, a.2)

  marked_to : (q : RequestFields) (disputed : Bool) → IsMarked S q disputed → IsMarked K q disputed
  marked_to q true is = (is.0, asked_to set kept moment cut is.0 is.1, is.2, is.3)
  marked_to q false is = λ p h same. is p (asked_back set kept moment cut p h) same

  -- a verdict that waits is not over
  waiting_kept : (v : VerdictFields) → S (Verdict v) → (Asks S (name_meant v) → ⊥) → K (Verdict v)
  waiting_kept v there waits = (cut (Verdict v)).1 (there, λ over. waits (over.request, over.asked, over.named))

  module _ (names verdicts left parked : List Row) (rows : AreRows S (IsRow names) (IsRow verdicts) (IsRow parked))
      (are : AreLeft set moment verdicts left) where
    row_left : (v : VerdictFields) → K (Verdict v) → IsRow verdicts (verdict_row v) → IsRow left (verdict_row v)
    row_left v there row =
        (are (verdict_row v)).1 (
          row,
          λ over. ((cut (Verdict v)).0 there).1
              (subst (HasEnded set moment) (sym (same_name v over.verdict over.row_is)) over.over),
        )

    pub kept_rows : AreRows K (IsRow names) (IsRow left) (IsRow parked)
    kept_rows = record {
      names_each = λ r there.
          let is = rows.names_each r there in
          (is.0, is.1, asked_to set kept moment cut is.0 is.2, marked_to is.0 is.1 is.3, is.4);
      names_all = λ q asked. rows.names_all q (asked_back set kept moment cut q asked);
      names_once = rows.names_once;
      verdicts_each = λ r there.
          let before = (are r).0 there in
          let is = rows.verdicts_each r before.0 in (
            is.0,
            (cut (Verdict is.0)).1 (is.1, λ over. before.1 (record { verdict = is.0; given = is.1; over = over; row_is = is.3 })),
            asks_to (name_meant is.0) is.2,
            is.3,
          );
      verdicts_all = λ v given asked. row_left v given (rows.verdicts_all v ((cut (Verdict v)).0 given).0 (asks_back (name_meant v) asked));
      parked_each = λ r there.
          let is = rows.parked_each r there in
          (is.0, waiting_kept is.0 is.1 is.2, λ asked. is.2 (asks_back (name_meant is.0) asked), is.3);
      parked_all = λ v given waits. rows.parked_all v ((cut (Verdict v)).0 given).0 (λ asked. waits (asks_to (name_meant v) asked));
    }
