-- The rows of a set of messages, and how an added message changes them.
use Rattle.std.proofs.Common.{◌≡◌, ◌⊎◌, inl, inr, ℕ, pos, Bool, true, false, List, refl, sym, ap, subst, ◌∙◌}
use Rattle.std.proofs.lemmas.Bool.{cases_Bool}
use Rattle.std.specs.Str.{bytes_eq}
use Rattle.std.proofs.lemmas.Slice.Eq.{bytes_eq-Decides}
use Rattle.std.proofs.lemmas.Bool.Decides.{eqb_tells, not_from_Decides}
use Rattle.sqlite.specs.declared.types.Value.{Value}
use Rattle.sqlite.specs.declared.types.Value.TheVariants.{Int, Text}
use Rattle.messages.specs.Fields.{RequestFields, VerdictFields}
use Rattle.messages.specs.Names.{IsNamed, SameName, name_meant, name_of}
use Rattle.messages.specs.declared.request_name.RequestName.{RequestName}
use Rattle.messages.specs.Wire.{IsMessage}
use Rattle.messages.specs.declared.message.Message.{Message}
use Rattle.messages.specs.declared.message.Message.TheVariants.{Request, Verdict}
use Rattle.messages.proofs.Uniqueness.{one_message}
use Rattle.store_tables.specs.Sets.{IsNothing, SameSet, With}
use Rattle.store_tables.specs.Rows.{RowSet, OfName, AreRows, Asks, IsMarked, name_row, verdict_row, parked_row}
use Rattle.store_tables.specs.private.Changes.{Gains, Joins, IsOf, Loses, Names, Tells}

-- ---- values and names

text_is : (a b : List ℕ) → Text a ≡ Text b → a ≡ b
text_is a b e = cc

int_is : (a b : ℕ) → Int (pos a) ≡ Int (pos b) → a ≡ b
int_is a b e = cc

one_request : (p q : RequestFields) → Request p ≡ Request q → p ≡ q
one_request p q e = cc

one_verdict : (v w : VerdictFields) → Verdict v ≡ Verdict w → v ≡ w
one_verdict v w e = cc

no_request : (v : VerdictFields) (q : RequestFields) → ¬ (Verdict v ≡ Request q)
no_request v q e = cc

-- a request's row is of its name
name_is : (q : RequestFields) (d : Bool) (name : RequestName) → IsNamed q name → OfName 0 name (name_row q d)
name_is q d name is = (ap Text is.0, ap (λ n. Int (pos n)) is.1)

named : (q : RequestFields) (d : Bool) (name : RequestName) → OfName 0 name (name_row q d) → IsNamed q name
named q d name is = (text_is _ _ is.0, int_is _ _ is.1)

-- a parked verdict's row is of the name that the verdict is about
parked_named : (v : VerdictFields) (name : RequestName) → OfName 1 name (parked_row v) → (v.of ≡ name.by) × (v.no ≡ name.no)
parked_named v name is = (text_is _ _ is.0, int_is _ _ is.1)

parked_is : (v : VerdictFields) (name : RequestName) → v.of ≡ name.by → v.no ≡ name.no → OfName 1 name (parked_row v)
parked_is v name by number = (ap Text by, ap (λ n. Int (pos n)) number)

-- two requests have one name, or they have not
same_or_other : (p q : RequestFields) → SameName p q ⊎ (¬ SameName p q)
same_or_other p q = elim (cases_Bool (bytes_eq p.by q.by)) [
  | inl by ↦ elim (eqb_tells p.no q.no) [
    | inl number ↦ inl ((bytes_eq-Decides p.by q.by).0 by, number.1)
    | inr other ↦ inr (λ same. other.1 same.1)
  ]
  | inr other ↦ inr (λ same. not_from_Decides _ (bytes_eq-Decides p.by q.by) other same.0)
]

-- ---- one set, one state of the rows

module _ (S T : Message → Type 0) (same : SameSet S T) where
  asks_too : (name : RequestName) → Asks S name → Asks T name
  asks_too name asks = (asks.0, (same (Request asks.0)).0 asks.1, asks.2)

  asks_before : (name : RequestName) → Asks T name → Asks S name
  asks_before name asks = (asks.0, (same (Request asks.0)).1 asks.1, asks.2)

  marked_too : (q : RequestFields) (d : Bool) → IsMarked S q d → IsMarked T q d
  marked_too q true m = (m.0, (same (Request m.0)).0 m.1, m.2, m.3)
  marked_too q false m = λ p there. m p ((same (Request p)).1 there)

  pub rows_same : (N V P : RowSet) → AreRows S N V P → AreRows T N V P
  rows_same N V P r = record {
    names_each = λ x there. let it = r.names_each x there in (it.0, it.1, (same (Request it.0)).0 it.2, marked_too it.0 it.1 it.3, it.4);
    names_all = λ q there. r.names_all q ((same (Request q)).1 there);
    names_once = r.names_once;
    verdicts_each = λ x there. let it = r.verdicts_each x there in (it.0, (same (Verdict it.0)).0 it.1, asks_too (name_meant it.0) it.2, it.3);
    verdicts_all = λ v there asks. r.verdicts_all v ((same (Verdict v)).1 there) (asks_before (name_meant v) asks);
    parked_each = λ x there. let it = r.parked_each x there in (it.0, (same (Verdict it.0)).0 it.1, (λ asks. it.2 (asks_before (name_meant it.0) asks)), it.3);
    parked_all = λ v there none. r.parked_all v ((same (Verdict v)).1 there) (λ asks. none (asks_too (name_meant v) asks));
  }

-- no message, no row
pub rows_of_nothing : (S : Message → Type 0) (N V P : RowSet) → IsNothing S → ((x : List Value) → ¬ N x)
    → ((x : List Value) → ¬ V x) → ((x : List Value) → ¬ P x) → AreRows S N V P
rows_of_nothing S N V P none names verdicts parked = record {
  names_each = λ x there. absurd (names x there);
  names_all = λ q there. absurd (none (Request q) there);
  names_once = λ p q a b same here there. absurd (names (name_row p a) here);
  verdicts_each = λ x there. absurd (verdicts x there);
  verdicts_all = λ v there asks. absurd (none (Verdict v) there);
  parked_each = λ x there. absurd (parked x there);
  parked_all = λ v there asks. absurd (none (Verdict v) there);
}

-- ---- what the names tell

-- the set has a request of the name exactly where a row is of it
pub told_true : (S : Message → Type 0) (N V P : RowSet) (name : RequestName) → AreRows S N V P → Tells N name true → Asks S name
told_true S N V P name r told =
    let it = r.names_each told.0 told.1 in
    (it.0, it.2, named it.0 it.1 name (subst (OfName 0 name) it.4 told.2))

pub told_false : (S : Message → Type 0) (N V P : RowSet) (name : RequestName) → AreRows S N V P → Tells N name false → ¬ Asks S name
told_false S N V P name r told asks =
    let it = r.names_all asks.0 asks.1 in
    told (name_row it.0 it.1) it.3 (name_is it.0 it.1 name (it.2.0 ∙ asks.2.0, it.2.1 ∙ asks.2.1))

-- ---- a verdict

module _ (S : Message → Type 0) (v : VerdictFields) where
  -- a verdict brings no request
  still_asks : (name : RequestName) → Asks S name → Asks (With S (Verdict v)) name
  still_asks name asks = (asks.0, inl asks.1, asks.2)

  asked_before : (name : RequestName) → Asks (With S (Verdict v)) name → Asks S name
  asked_before name (q, inl there, is) = (q, there, is)
  asked_before name (q, inr e, is) = absurd (no_request v q (sym e))

  still_marked : (q : RequestFields) (d : Bool) → IsMarked S q d → IsMarked (With S (Verdict v)) q d
  still_marked q true m = (m.0, inl m.1, m.2, m.3)
  still_marked q false m = λ p there. elim there [ inl before ↦ m p before | inr e ↦ λ same. absurd (no_request v p (sym e)) ]

  names_still : (N V P : RowSet) → AreRows S N V P → (x : List Value) → N x
      → (q : RequestFields) × (d : Bool) × With S (Verdict v) (Request q) × IsMarked (With S (Verdict v)) q d × (x ≡ name_row q d)
  names_still N V P r x there = let it = r.names_each x there in (it.0, it.1, inl it.2, still_marked it.0 it.1 it.3, it.4)

  names_for : (N V P : RowSet) → AreRows S N V P → (q : RequestFields) → With S (Verdict v) (Request q)
      → (p : RequestFields) × (d : Bool) × SameName p q × N (name_row p d)
  names_for N V P r q (inl there) = r.names_all q there
  names_for N V P r q (inr e) = absurd (no_request v q (sym e))

  module _ (N V P : RowSet) (r : AreRows S N V P) where
    -- A verdict whose name has a request: its row is added to the verdicts.
    pub counted : (V' : RowSet) → Tells N (name_meant v) true → Gains (verdict_row v) V V' → AreRows (With S (Verdict v)) N V' P
    counted V' told gains = record {
      names_each = names_still N V P r;
      names_all = names_for N V P r;
      names_once = r.names_once;
      verdicts_each = λ x there. elim (gains.each x there) [
        | inl before ↦ let it = r.verdicts_each x before in (it.0, inl it.1, still_asks (name_meant it.0) it.2, it.3)
        | inr is ↦ (v, inr refl, still_asks (name_meant v) (told_true S N V P (name_meant v) r told), is)
      ];
      verdicts_all = λ w there asks. elim there [
        | inl before ↦ gains.kept (verdict_row w) (r.verdicts_all w before (asked_before (name_meant w) asks))
        | inr e ↦ subst (λ u. V' (verdict_row u)) (sym (one_verdict w v e)) gains.there
      ];
      parked_each = λ x there. let it = r.parked_each x there in (it.0, inl it.1, (λ asks. it.2 (asked_before (name_meant it.0) asks)), it.3);
      parked_all = λ w there none. elim there [
        | inl before ↦ r.parked_all w before (λ asks. none (still_asks (name_meant w) asks))
        | inr e ↦
            absurd (none (still_asks (name_meant w) (subst (λ u. Asks S (name_meant u)) (sym (one_verdict w v e)) (told_true S N V P (name_meant v) r told))))
      ];
    }

    -- A verdict whose name has no request: it is parked.
    pub parks : (P' : RowSet) → Tells N (name_meant v) false → Gains (parked_row v) P P' → AreRows (With S (Verdict v)) N V P'
    parks P' told gains = record {
      names_each = names_still N V P r;
      names_all = names_for N V P r;
      names_once = r.names_once;
      verdicts_each = λ x there. let it = r.verdicts_each x there in (it.0, inl it.1, still_asks (name_meant it.0) it.2, it.3);
      verdicts_all = λ w there asks. elim there [
        | inl before ↦ r.verdicts_all w before (asked_before (name_meant w) asks)
        | inr e ↦ absurd (told_false S N V P (name_meant v) r told (subst (λ u. Asks S (name_meant u)) (one_verdict w v e) (asked_before (name_meant w) asks)))
      ];
      parked_each = λ x there. elim (gains.each x there) [
        | inl before ↦ let it = r.parked_each x before in (it.0, inl it.1, (λ asks. it.2 (asked_before (name_meant it.0) asks)), it.3)
        | inr is ↦ (v, inr refl, (λ asks. told_false S N V P (name_meant v) r told (asked_before (name_meant v) asks)), is)
      ];
      parked_all = λ w there none. elim there [
        | inl before ↦ gains.kept (parked_row w) (r.parked_all w before (λ asks. none (still_asks (name_meant w) asks)))
        | inr e ↦ subst (λ u. P' (parked_row u)) (sym (one_verdict w v e)) gains.there
      ];
    }

-- ---- a request

module _ (S : Message → Type 0) (q : RequestFields) (only : (m : Message) → S m
    → IsMessage m) (new : ¬ S (Request q)) (N V P : RowSet) (r : AreRows S N V P) (d : Bool) (N' : RowSet) (names : Names q d N N') where
  abbrev More : Message → Type 0
  More = With S (Request q)

  more_asks : (name : RequestName) → Asks S name → Asks More name
  more_asks name asks = (asks.0, inl asks.1, asks.2)

  -- a row that is not of the request's name has a request of another name
  other_name : (p : RequestFields) (c : Bool) → ¬ OfName 0 (name_of q) (name_row p c) → ¬ SameName p q
  other_name p c not same = not (name_is p c (name_of q) same)

  marked_still : (p : RequestFields) (c : Bool) → (¬ SameName p q) → IsMarked S p c → IsMarked More p c
  marked_still p true other m = (m.0, inl m.1, m.2, m.3)
  marked_still p false other m = λ o there. elim there [
    | inl before ↦ m o before
    | inr e ↦ λ same. absurd (let is = one_request o q e in
        other (sym same.0 ∙ ap (λ (x : RequestFields). x.by) is, sym same.1 ∙ ap (λ (x : RequestFields). x.no) is))
  ]

  -- the new request is marked as its row tells
  marked_now : (b : Bool) → Tells N (name_of q) b → IsMarked More q b
  marked_now true told =
      let it = r.names_each told.0 told.1 in
      let same = named it.0 it.1 (name_of q) (subst (OfName 0 (name_of q)) it.4 told.2) in
      (it.0, inl it.2, same, λ is. new (subst (λ (x : RequestFields). S (Request x)) is it.2))
  marked_now false told = λ p there. elim there [
    | inl before ↦ λ same. absurd (told_false S N V P (name_of q) r told (p, before, same))
    | inr e ↦ λ same. one_request p q e
  ]

  names_each : (x : List Value) → N' x → (p : RequestFields) × (c : Bool) × More (Request p) × IsMarked More p c × (x ≡ name_row p c)
  names_each x there = elim (names.each x there) [
    | inl before ↦
        let it = r.names_each x before.0 in
        let other = other_name it.0 it.1 (subst (λ y. ¬ OfName 0 (name_of q) y) it.4 before.1) in
        (it.0, it.1, inl it.2, marked_still it.0 it.1 other it.3, it.4)
    | inr is ↦ (q, d, inr refl, marked_now d names.told, is)
  ]

  names_all : (p : RequestFields) → More (Request p) → (o : RequestFields) × (c : Bool) × SameName o p × N' (name_row o c)
  names_all p there = elim (same_or_other p q) [
    | inl same ↦ (q, d, (sym same.0, sym same.1), names.there)
    | inr other ↦ elim there [
      | inl before ↦
          let it = r.names_all p before in (
            it.0,
            it.1,
            it.2,
            names.kept (name_row it.0 it.1) it.3 (λ of_name. let is = named it.0 it.1 (name_of q) of_name in other (sym it.2.0 ∙ is.0, sym it.2.1 ∙ is.1)),
          )
      | inr e ↦ absurd (let is = one_request p q e in other (ap (λ (x : RequestFields). x.by) is, ap (λ (x : RequestFields). x.no) is))
    ]
  ]

  -- the row of the name is the request's
  here_alone : (p : RequestFields) (c : Bool) → SameName p q → N' (name_row p c) → name_row p c ≡ name_row q d
  here_alone p c same there = elim (names.each (name_row p c) there) [
    | inl before ↦ absurd (before.1 (name_is p c (name_of q) same))
    | inr is ↦ is
  ]

  names_once : (o p : RequestFields) (a b : Bool) → SameName o p → N' (name_row o a) → N' (name_row p b) → name_row o a ≡ name_row p b
  names_once o p a b same here there = elim (same_or_other p q) [
    | inl is ↦ here_alone o a (same.0 ∙ is.0, same.1 ∙ is.1) here ∙ sym (here_alone p b is there)
    | inr other ↦ r.names_once o p a b same (before o a (λ is. other (sym same.0 ∙ is.0, sym same.1 ∙ is.1)) here) (before p b other there)
  ]
    where
      before : (x : RequestFields) (c : Bool) → (¬ SameName x q) → N' (name_row x c) → N (name_row x c)
      before x c not there = elim (names.each (name_row x c) there) [
        | inl old ↦ old.0
        | inr is ↦ absurd (not (named x c (name_of q) (subst (OfName 0 (name_of q)) (sym is) (name_is q d (name_of q) (refl, refl)))))
      ]

  -- a parked row of a verdict has the text of no other
  one_parked : (v w : VerdictFields) → S (Verdict w) → IsOf (parked_row w) v → v ≡ w
  one_parked v w there is = one_verdict v w (one_message (Verdict v) (Verdict w) is.0 (only (Verdict w) there) (text_is _ _ (sym is.1)))

  module _ (V' P' : RowSet) (joins : Joins (name_of q) P V V') (loses : Loses (OfName 1 (name_of q)) P P') where
    verdicts_each : (x : List Value) → V' x → (v : VerdictFields) × More (Verdict v) × Asks More (name_meant v) × (x ≡ verdict_row v)
    verdicts_each x there = elim (joins.each x there) [
      | inl before ↦ let it = r.verdicts_each x before in (it.0, inl it.1, more_asks (name_meant it.0) it.2, it.3)
      | inr moved ↦
          let it = r.parked_each moved.1 moved.2 in
          let is = one_parked moved.0 it.0 it.1 (subst (λ y. IsOf y moved.0) it.3 moved.4) in
          let name = parked_named it.0 (name_of q) (subst (OfName 1 (name_of q)) it.3 moved.3) in
          (it.0, inl it.1, (q, inr refl, (sym name.0, sym name.1)), moved.5 ∙ ap verdict_row is)
    ]

    -- a verdict that is about the request is among the verdicts
    joined_now : (v : VerdictFields) → S (Verdict v) → v.of ≡ q.by → v.no ≡ q.no → (b : Bool) → Tells N (name_of q) b → V' (verdict_row v)
    joined_now v there by number true told =
        let asks = told_true S N V P (name_of q) r told in
        joins.kept (verdict_row v) (r.verdicts_all v there (asks.0, asks.1, (asks.2.0 ∙ sym by, asks.2.1 ∙ sym number)))
    joined_now v there by number false told =
        let parked = r.parked_all v there (λ asks. told_false S N V P (name_of q) r told (asks.0, asks.1, (asks.2.0 ∙ by, asks.2.1 ∙ number))) in
        let moved = joins.joined (parked_row v) parked (parked_is v (name_of q) by number) in
        subst (λ u. V' (verdict_row u)) (one_parked moved.0 v there moved.1) moved.2

    verdicts_all : (v : VerdictFields) → More (Verdict v) → Asks More (name_meant v) → V' (verdict_row v)
    verdicts_all v (inr e) asks = absurd (no_request v q e)
    verdicts_all v (inl there) (p, inl before, is) = joins.kept (verdict_row v) (r.verdicts_all v there (p, before, is))
    verdicts_all v (inl there) (p, inr e, is) =
        let same = one_request p q e in
        joined_now v there (sym is.0 ∙ ap (λ (x : RequestFields). x.by) same) (sym is.1 ∙ ap (λ (x : RequestFields). x.no) same) d names.told

    parked_each : (x : List Value) → P' x → (v : VerdictFields) × More (Verdict v) × (¬ Asks More (name_meant v)) × (x ≡ parked_row v)
    parked_each x there =
        let kept = loses.each x there in
        let it = r.parked_each x kept.0 in
        let other = subst (λ y. ¬ OfName 1 (name_of q) y) it.3 kept.1 in
        (it.0, inl it.1, none it.0 it.2 other, it.3)
      where
        none : (v : VerdictFields) → (¬ Asks S (name_meant v)) → (¬ OfName 1 (name_of q) (parked_row v)) → ¬ Asks More (name_meant v)
        none v before other (p, inl there, is) = before (p, there, is)
        none v before other (p, inr e, is) =
            let same = one_request p q e in
            other (parked_is v (name_of q) (sym is.0 ∙ ap (λ (x : RequestFields). x.by) same) (sym is.1 ∙ ap (λ (x : RequestFields). x.no) same))

    parked_all : (v : VerdictFields) → More (Verdict v) → (¬ Asks More (name_meant v)) → P' (parked_row v)
    parked_all v (inr e) none = absurd (no_request v q e)
    parked_all v (inl there) none =
        loses.kept (parked_row v) (r.parked_all v there (λ asks. none (more_asks (name_meant v) asks)))
        (λ of_name. let is = parked_named v (name_of q) of_name in none (q, inr refl, (sym is.0, sym is.1)))

    -- A request: its name's row, and the verdicts that waited for it, are as the set with it has them.
    pub asked : AreRows (With S (Request q)) N' V' P'
    asked = record {
      names_each = names_each;
      names_all = names_all;
      names_once = names_once;
      verdicts_each = verdicts_each;
      verdicts_all = verdicts_all;
      parked_each = parked_each;
      parked_all = parked_all;
    }
