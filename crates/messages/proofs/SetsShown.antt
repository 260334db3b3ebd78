-- What shows a set also shows any other set of the same messages.
use Rattle.std.proofs.Common.{Bool, true, false, List}
use Rattle.messages.specs.Fields.{RequestFields, VerdictFields}
use Rattle.messages.specs.NameRows.{IsMarked, ShowSet}
use Rattle.messages.specs.declared.name_row.NameRow.{NameRow}
use Rattle.messages.specs.declared.message.Message.{Message}
use Rattle.messages.specs.declared.message.Message.TheVariants.{Request, Verdict}

module _ (S T : Message → Type 0) (same : (m : Message) → (S m → T m) × (T m → S m)) where
  pub marked_too : (q : RequestFields) (disputed : Bool) → IsMarked S q disputed → IsMarked T q disputed
  marked_too q true is = (is.0, (same (Request is.0)).0 is.1, is.2, is.3)
  marked_too q false is = λ p there named. is p ((same (Request p)).1 there) named

  pub shown_too : (names : List NameRow) (verdicts : List VerdictFields) → ShowSet S names verdicts → ShowSet T names verdicts
  shown_too names verdicts show = record {
    each = λ row among. let was = show.each row among in ((same (Request row.request)).0 was.0, marked_too row.request row.is_disputed was.1);
    all = λ q there. show.all q ((same (Request q)).1 there);
    once = show.once;
    given = λ v. (λ among. (same (Verdict v)).0 ((show.given v).0 among), λ there. (show.given v).1 ((same (Verdict v)).1 there));
  }
