-- The test of the rows holds exactly where they are those of the messages.
use Rattle.std.proofs.Common.{◌≡◌, inl, inr, ℕ, pos, Bool, true, false, true≢false, not, ◌&&◌, ◌||◌, ◌==◌}
use Rattle.std.proofs.Common.{if◌then◌else◌, List, [], ◌∷◌, length, Contains, refl, sym, ap, subst, ◌∙◌}
use Rattle.std.specs.List.{list_all, list_any}
use Rattle.std.specs.Str.{bytes_eq}
use Rattle.std.proofs.lemmas.Bool.{and_parts, and_from, cases_Bool}
use Rattle.std.proofs.lemmas.Slice.Eq.{bytes_eq-Decides}
use Rattle.std.proofs.lemmas.Bool.Decides.{Decides-eqb, not_from_Decides}
use Rattle.sqlite.specs.declared.types.Value.{Value}
use Rattle.sqlite.specs.declared.types.Value.TheVariants.{Int, Text}
use Rattle.sqlite.specs.Order.{Row, column}
use Rattle.sqlite_rules.specs.Lists.{Has}
use Rattle.sqlite_rules.proofs.ListLemmas.{contains_had, has_contained, some_from, some_has, test_from, test_has}
use Rattle.messages.specs.Fields.{RequestFields, VerdictFields}
use Rattle.messages.specs.Names.{SameName, name_meant}
use Rattle.messages.specs.declared.request_name.RequestName.{RequestName}
use Rattle.messages.specs.Wire.{kind_text, wire, IsMessage}
use Rattle.messages.specs.declared.message.Message.{Message}
use Rattle.messages.specs.declared.message.Message.TheVariants.{Request, Verdict}
use Rattle.messages.proofs.Uniqueness.{one_message}
use Rattle.store_tables.specs.Rows.{AreRows, Asks, IsMarked, IsRow, name_row, parked_row, verdict_row}
use Rattle.store_schema.specs.declared.part.DeskPart.TheVariants.{Names, Verdicts, Parked}
use Rattle.store_opening.specs.private.Rows.{HaveRowids}
use Rattle.store_opening.specs.private.Compare.{agree, are_rows_of, asks, counts, has_name_row, has_parked_row, has_verdict_row}
use Rattle.store_opening.specs.private.Compare.{is_disputed, is_name_row, is_named, is_of_name, is_once, is_other, is_parked_row}
use Rattle.store_opening.specs.private.Compare.{is_verdict, is_verdict_row, shows_parked, shows_request, shows_verdict, waits}
use Rattle.store_opening.proofs.Compared.{agree_int, agree_is, agree_text, five, four, is_the_number, is_the_text, number_is, six, text_is}

-- the tests of the three tables
abbrev pub are_tests : List Message → (N V P : List Row) → Bool
are_tests ms N V P = are_rows_of Names ms N && (are_rows_of Verdicts ms V && are_rows_of Parked ms P)

one_request : (p q : RequestFields) → Request p ≡ Request q → p ≡ q
one_request p q e = cc

one_verdict : (v w : VerdictFields) → Verdict v ≡ Verdict w → v ≡ w
one_verdict v w e = cc

one_text : (s t : List ℕ) → Text s ≡ Text t → s ≡ t
one_text s t e = cc

one_number : (m n : ℕ) → Int (pos m) ≡ Int (pos n) → m ≡ n
one_number m n e = cc

tail_is : (a b : Value) (r s : List Value) → a ∷ r ≡ b ∷ s → r ≡ s
tail_is a b r s e = cc

flag : (d : Bool) → Int (pos (if d then 1 else 0)) ≡ Int (if d then pos 1 else pos 0)
flag true = refl
flag false = refl

not_true : (b : Bool) → not b ≡ true → b ≡ false
not_true true h = absurd (true≢false (sym h))
not_true false h = refl

is_not : (b : Bool) → b ≡ false → not b ≡ true
is_not b e = ap not e

name : (asker : List ℕ) (number : ℕ) → RequestName
name asker number = record { by = asker; no = number }

-- ---- a row whose columns are these

of_name_by : (asker : List ℕ) (number : ℕ) (r : Row) → column r 1 ≡ Text asker → column r 2 ≡ Int (pos number) → is_of_name asker number r ≡ true
of_name_by asker number r a b = and_from _ _ (is_the_text asker (column r 1) a) (is_the_number number (column r 2) b)

request_by : (ms : List Message) (r : Row) (q : RequestFields) → (length r == 5) ≡ true → column r 1 ≡ Text q.by → column r 2 ≡ Int (pos q.no)
    → column r 3 ≡ Text (wire (Request q)) → column r 4 ≡ Int (pos (if is_disputed ms (Request q) then 1 else 0)) → shows_request ms r (Request q) ≡ true
request_by ms r q w a b c d =
    and_from _ _ (and_from _ _ w (and_from _ _ (is_the_text q.by (column r 1) a)
    (and_from _ _ (is_the_number q.no (column r 2) b) (is_the_text (wire (Request q)) (column r 3) c)))) (is_the_number _ (column r 4) d)

verdict_by : (r : Row) (v : VerdictFields) → (length r == 6) ≡ true → column r 1 ≡ Text v.of → column r 2 ≡ Int (pos v.no)
    → column r 3 ≡ Text v.by → column r 4 ≡ Text (kind_text v.kind) → column r 5 ≡ Int (pos v.at) → is_verdict r v ≡ true
verdict_by r v w a b c d e =
    and_from _ _ w (and_from _ _ (is_the_text v.of (column r 1) a) (and_from _ _ (is_the_number v.no (column r 2) b)
    (and_from _ _ (is_the_text v.by (column r 3) c) (and_from _ _ (is_the_text (kind_text v.kind) (column r 4) d) (is_the_number v.at (column r 5) e)))))

parked_by : (r : Row) (v : VerdictFields) → (length r == 4) ≡ true → column r 1 ≡ Text (wire (Verdict v))
    → column r 2 ≡ Text v.of → column r 3 ≡ Int (pos v.no) → shows_parked r (Verdict v) ≡ true
parked_by r v w a b c = and_from _ _ w
    (and_from _ _ (is_the_text (wire (Verdict v)) (column r 1) a) (and_from _ _ (is_the_text v.of (column r 2) b) (is_the_number v.no (column r 3) c)))

module _ (ms : List Message) (known : (m : Message) → Contains ms m → IsMessage m) where
  abbrev S : Message → Type 0
  S m = Contains ms m

  -- ---- names

  asks_is : (asker : List ℕ) (number : ℕ) → asks ms asker number ≡ true → Asks S (record { by = asker; no = number })
  asks_is asker number h = let it = some_has (is_named asker number) ms h in go it.0 it.1 it.2
    where
      go : (m : Message) → Has ms m → is_named asker number m ≡ true → Asks S (record { by = asker; no = number })
      go (Request q) there is =
          let both = and_parts _ _ is in
          (q, contains_had ms (Request q) there, ((bytes_eq-Decides q.by asker).0 both.0, (Decides-eqb q.no number).0 both.1))
      go (Verdict v) there is = absurd (true≢false (sym is))

  is_asked : (asker : List ℕ) (number : ℕ) → Asks S (record { by = asker; no = number }) → asks ms asker number ≡ true
  is_asked asker number is =
      some_from (is_named asker number) ms (Request is.0) (has_contained ms (Request is.0) is.1)
      (and_from _ _ ((bytes_eq-Decides is.0.by asker).1 is.2.0) ((Decides-eqb is.0.no number).1 is.2.1))

  not_asked : (asker : List ℕ) (number : ℕ) → (¬ Asks S (record { by = asker; no = number })) → asks ms asker number ≡ false
  not_asked asker number none = elim (cases_Bool (asks ms asker number)) [ inl is ↦ absurd (none (asks_is asker number is)) | inr is ↦ is ]

  none_asks : (asker : List ℕ) (number : ℕ) → asks ms asker number ≡ false → ¬ Asks S (record { by = asker; no = number })
  none_asks asker number is there = true≢false (sym (is_asked asker number there) ∙ is)

  -- ---- disputes

  same_request : (p q : RequestFields) → S (Request p) → S (Request q) → wire (Request p) ≡ wire (Request q) → p ≡ q
  same_request p q here there same = one_request p q (one_message (Request p) (Request q) (known (Request p) here) (known (Request q) there) same)

  disputed_is : (q : RequestFields) → S (Request q) → IsMarked S q (is_disputed ms (Request q))
  disputed_is q here = elim (cases_Bool (is_disputed ms (Request q))) [
    | inl is ↦ subst (IsMarked S q) (sym is) (let it = some_has (is_other (Request q)) ms is in other it.0 it.1 it.2)
    | inr is ↦ subst (IsMarked S q) (sym is) (none is)
  ]
    where
      other : (m : Message) → Has ms m → is_other (Request q) m ≡ true → IsMarked S q true
      other (Request p) there is =
          let both = and_parts _ _ is in
          let names = and_parts _ _ both.0 in (
            p,
            contains_had ms (Request p) there,
            ((bytes_eq-Decides p.by q.by).0 names.0, (Decides-eqb p.no q.no).0 names.1),
            λ same. not_from_Decides _ (bytes_eq-Decides (wire (Request p)) (wire (Request q))) (not_true _ both.1) (ap (λ x. wire (Request x)) same),
          )
      other (Verdict v) there is = absurd (true≢false (sym is))

      none : is_disputed ms (Request q) ≡ false → IsMarked S q false
      none is p there same = elim (cases_Bool (bytes_eq (wire (Request p)) (wire (Request q)))) [
        | inl texts ↦ same_request p q there here ((bytes_eq-Decides (wire (Request p)) (wire (Request q))).0 texts)
        | inr texts ↦ absurd (true≢false (sym (some_from (is_other (Request q)) ms (Request p) (has_contained ms (Request p) there)
            (and_from _ _ (and_from _ _ ((bytes_eq-Decides p.by q.by).1 same.0) ((Decides-eqb p.no q.no).1 same.1)) (is_not _ texts))) ∙ is))
      ]

  one_mark : (q : RequestFields) (a b : Bool) → IsMarked S q a → IsMarked S q b → a ≡ b
  one_mark q true true h k = refl
  one_mark q false false h k = refl
  one_mark q true false h k = absurd (h.3 (k h.0 h.1 h.2))
  one_mark q false true h k = absurd (k.3 (h k.0 k.1 k.2))

  mark_is : (q : RequestFields) (d : Bool) → S (Request q) → IsMarked S q d → d ≡ is_disputed ms (Request q)
  mark_is q d here marked = one_mark q d _ marked (disputed_is q here)

  -- ---- what a row shows

  pub record IsNameRow (r : Row) : Type 0 where
    pub q : RequestFields
    pub there : S (Request q)
    pub is : r ≡ column r 0 ∷ name_row q (is_disputed ms (Request q))

  name_shown : (r : Row) → is_name_row ms r ≡ true → IsNameRow r
  name_shown r h = let it = some_has (shows_request ms r) ms h in go it.0 it.1 it.2
    where
      go : (m : Message) → Has ms m → shows_request ms r m ≡ true → IsNameRow r
      go (Request q) there is =
          let both = and_parts _ _ is in
          let wide = and_parts _ _ both.0 in
          let one = and_parts _ _ wide.1 in
          let two = and_parts _ _ one.1 in
          let a = text_is _ _ one.0 in
          let b = number_is _ _ two.0 in
          let c = text_is _ _ two.1 in
          let d = number_is _ _ both.1 ∙ flag (is_disputed ms (Request q)) in
          record { q = q; there = contains_had ms (Request q) there; is = five r wide.0 ∙ (λ i. column r 0 ∷ a i ∷ b i ∷ c i ∷ d i ∷ []) }
      go (Verdict v) there is = absurd (true≢false (sym is))

  shows_name : (id : Value) (q : RequestFields) (d : Bool) → S (Request q) → d ≡ is_disputed ms (Request q) → is_name_row ms (id ∷ name_row q d) ≡ true
  shows_name id q d there is = some_from (shows_request ms (id ∷ name_row q d)) ms (Request q) (has_contained ms (Request q) there) (request_by ms
      (id ∷ name_row q d) q refl refl refl refl (ap (λ (b : Bool). Int (if b then pos 1 else pos 0)) is ∙ sym (flag (is_disputed ms (Request q)))))

  pub record IsVerdictRow (r : Row) : Type 0 where
    pub v : VerdictFields
    pub there : S (Verdict v)
    pub asked : asks ms v.of v.no ≡ true
    pub is : r ≡ column r 0 ∷ verdict_row v

  verdict_is : (r : Row) (v : VerdictFields) → is_verdict r v ≡ true → r ≡ column r 0 ∷ verdict_row v
  verdict_is r v is =
      let wide = and_parts _ _ is in
      let one = and_parts _ _ wide.1 in
      let two = and_parts _ _ one.1 in
      let three = and_parts _ _ two.1 in
      let four = and_parts _ _ three.1 in
      let a = text_is _ _ one.0 in
      let b = number_is _ _ two.0 in
      let c = text_is _ _ three.0 in
      let d = text_is _ _ four.0 in
      let e = number_is _ _ four.1 in
      six r wide.0 ∙ (λ i. column r 0 ∷ a i ∷ b i ∷ c i ∷ d i ∷ e i ∷ [])

  is_its_row : (id : Value) (v : VerdictFields) → is_verdict (id ∷ verdict_row v) v ≡ true
  is_its_row id v = verdict_by (id ∷ verdict_row v) v refl refl refl refl refl refl

  verdict_shown : (r : Row) → is_verdict_row ms r ≡ true → IsVerdictRow r
  verdict_shown r h = let it = some_has (λ m. shows_verdict r m && counts ms m) ms h in go it.0 it.1 it.2
    where
      go : (m : Message) → Has ms m → (shows_verdict r m && counts ms m) ≡ true → IsVerdictRow r
      go (Request q) there is = absurd (true≢false (sym is))
      go (Verdict v) there is = let both = and_parts _ _ is in record {
        v = v;
        there = contains_had ms (Verdict v) there;
        asked = both.1;
        is = verdict_is r v both.0;
      }

  shows_counted : (id : Value) (v : VerdictFields) → S (Verdict v) → asks ms v.of v.no ≡ true → is_verdict_row ms (id ∷ verdict_row v) ≡ true
  shows_counted id v there asked = some_from (λ m. shows_verdict (id ∷ verdict_row v) m && counts ms m) ms
      (Verdict v) (has_contained ms (Verdict v) there) (and_from _ _ (is_its_row id v) asked)

  pub record IsParkedRow (r : Row) : Type 0 where
    pub v : VerdictFields
    pub there : S (Verdict v)
    pub asked : asks ms v.of v.no ≡ false
    pub is : r ≡ column r 0 ∷ parked_row v

  parked_is : (r : Row) (v : VerdictFields) → shows_parked r (Verdict v) ≡ true → r ≡ column r 0 ∷ parked_row v
  parked_is r v is =
      let wide = and_parts _ _ is in
      let one = and_parts _ _ wide.1 in
      let two = and_parts _ _ one.1 in
      let a = text_is _ _ one.0 in
      let b = text_is _ _ two.0 in
      let c = number_is _ _ two.1 in
      four r wide.0 ∙ (λ i. column r 0 ∷ a i ∷ b i ∷ c i ∷ [])

  is_its_parked : (id : Value) (v : VerdictFields) → shows_parked (id ∷ parked_row v) (Verdict v) ≡ true
  is_its_parked id v = parked_by (id ∷ parked_row v) v refl refl refl refl

  parked_shown : (r : Row) → is_parked_row ms r ≡ true → IsParkedRow r
  parked_shown r h = let it = some_has (λ m. shows_parked r m && waits ms m) ms h in go it.0 it.1 it.2
    where
      go : (m : Message) → Has ms m → (shows_parked r m && waits ms m) ≡ true → IsParkedRow r
      go (Request q) there is = absurd (true≢false (sym is))
      go (Verdict v) there is = let both = and_parts _ _ is in record {
        v = v;
        there = contains_had ms (Verdict v) there;
        asked = not_true _ both.1;
        is = parked_is r v both.0;
      }

  shows_waiting : (id : Value) (v : VerdictFields) → S (Verdict v) → asks ms v.of v.no ≡ false → is_parked_row ms (id ∷ parked_row v) ≡ true
  shows_waiting id v there asked = some_from (λ m. shows_parked (id ∷ parked_row v) m && waits ms m) ms
      (Verdict v) (has_contained ms (Verdict v) there) (and_from _ _ (is_its_parked id v) (is_not _ asked))

  -- ---- where the test holds, they are the rows

  module _ (N V P : List Row) where
    module _ (h : are_tests ms N V P ≡ true) where
      names_test : are_rows_of Names ms N ≡ true
      names_test = (and_parts _ _ h).0

      verdicts_test : are_rows_of Verdicts ms V ≡ true
      verdicts_test = (and_parts _ _ (and_parts _ _ h).1).0

      parked_test : are_rows_of Parked ms P ≡ true
      parked_test = (and_parts _ _ (and_parts _ _ h).1).1

      name_at : (r : Row) → Has N r → IsNameRow r
      name_at r there = name_shown r (test_has (is_name_row ms) N r (and_parts _ _ names_test).0 there)

      verdict_at : (r : Row) → Has V r → IsVerdictRow r
      verdict_at r there = verdict_shown r (test_has (is_verdict_row ms) V r (and_parts _ _ verdicts_test).0 there)

      parked_at : (r : Row) → Has P r → IsParkedRow r
      parked_at r there = parked_shown r (test_has (is_parked_row ms) P r (and_parts _ _ parked_test).0 there)

      name_row_of : (m : Message) → S m → has_name_row N m ≡ true
      name_row_of m there = test_has (has_name_row N) ms m (and_parts _ _ (and_parts _ _ names_test).1).0 (has_contained ms m there)

      verdict_row_of : (m : Message) → S m → has_verdict_row ms V m ≡ true
      verdict_row_of m there = test_has (has_verdict_row ms V) ms m (and_parts _ _ verdicts_test).1 (has_contained ms m there)

      parked_row_of : (m : Message) → S m → has_parked_row ms P m ≡ true
      parked_row_of m there = test_has (has_parked_row ms P) ms m (and_parts _ _ parked_test).1 (has_contained ms m there)

      once_of : (r s : Row) → Has N r → Has N s → is_once r s ≡ true
      once_of r s here there = test_has (is_once r) N s (test_has (λ x. list_all (is_once x) N) N r (and_parts _ _ (and_parts _ _ names_test).1).1 here) there

      name_of_row : (asker : List ℕ) (number : ℕ) (r : Row) → is_of_name asker number r ≡ true → (it : IsNameRow r) → (it.q.by ≡ asker) × (it.q.no ≡ number)
      name_of_row asker number r is it =
          let both = and_parts _ _ is in (
            one_text _ _ (ap (λ (x : Row). column x 1) (sym it.is) ∙ text_is _ _ both.0),
            one_number _ _ (ap (λ (x : Row). column x 2) (sym it.is) ∙ number_is _ _ both.1),
          )

      names_all : (q : RequestFields) → S (Request q) → (p : RequestFields) × (disputed : Bool) × SameName p q × IsRow N (name_row p disputed)
      names_all q there =
          let found = some_has (is_of_name q.by q.no) N (name_row_of (Request q) there) in
          let it = name_at found.0 found.1 in
          (it.q, is_disputed ms (Request it.q), name_of_row q.by q.no found.0 found.2 it, (column found.0 0, subst (Has N) it.is found.1))

      once_same : (r s : Row) → is_once r s ≡ true → (a : IsNameRow r) → (b : IsNameRow s) → SameName a.q b.q
          → name_row a.q (is_disputed ms (Request a.q)) ≡ name_row b.q (is_disputed ms (Request b.q))
      once_same r s once a b same =
          let of_a = λ (k : ℕ). ap (λ (x : Row). column x k) a.is in
          let of_b = λ (k : ℕ). ap (λ (x : Row). column x k) b.is in
          let by = agree_text a.q.by (column r 1) (column s 1) (of_a 1) (of_b 1 ∙ ap Text (sym same.0)) in
          let number = agree_int (pos a.q.no) (column r 2) (column s 2) (of_a 2) (of_b 2 ∙ ap (λ n. Int (pos n)) (sym same.1)) in
          let body = subst (λ (t : Bool). (not t || agree (column r 3) (column s 3)) ≡ true) (and_from _ _ by number) once in
          let texts = one_text _ _ (sym (of_a 3) ∙ agree_is _ _ body ∙ of_b 3) in
          let one = same_request a.q b.q a.there b.there texts in
          ap (λ x. name_row x (is_disputed ms (Request x))) one

      names_once : (p q : RequestFields) (a b : Bool) → SameName p q → IsRow N (name_row p a) → IsRow N (name_row q b) → name_row p a ≡ name_row q b
      names_once p q a b same here there =
          let x = name_at _ here.1 in
          let y = name_at _ there.1 in
          let px : name_row p a ≡ name_row x.q (is_disputed ms (Request x.q)) = tail_is _ _ _ _ x.is in
          let qy : name_row q b ≡ name_row y.q (is_disputed ms (Request y.q)) = tail_is _ _ _ _ y.is in
          let by : x.q.by ≡ y.q.by = sym (one_text _ _ (ap (λ (r : Row). column r 0) px)) ∙ same.0 ∙ one_text _ _ (ap (λ (r : Row). column r 0) qy) in
          let number : x.q.no ≡ y.q.no = sym (one_number _ _ (ap (λ (r : Row). column r 1) px)) ∙ same.1 ∙ one_number _ _ (ap (λ (r : Row). column r 1) qy) in
          px ∙ once_same _ _ (once_of _ _ here.1 there.1) x y (by, number) ∙ sym qy

      has_verdict : (v : VerdictFields) → S (Verdict v) → Asks S (name_meant v) → IsRow V (verdict_row v)
      has_verdict v there asked =
          let found = some_has (λ r. shows_verdict r (Verdict v)) V (subst (λ (t : Bool). (not t || list_any (λ r. shows_verdict r (Verdict v)) V) ≡ true)
          (is_asked v.of v.no asked) (verdict_row_of (Verdict v) there)) in
          (column found.0 0, subst (Has V) (verdict_is found.0 v found.2) found.1)

      has_parked : (v : VerdictFields) → S (Verdict v) → (¬ Asks S (name_meant v)) → IsRow P (parked_row v)
      has_parked v there none =
          let found = some_has (λ r. shows_parked r (Verdict v)) P (subst (λ (t : Bool). (not (not t) || list_any (λ r. shows_parked r (Verdict v)) P) ≡ true)
          (not_asked v.of v.no none) (parked_row_of (Verdict v) there)) in
          (column found.0 0, subst (Has P) (parked_is found.0 v found.2) found.1)

      pub rows_are : AreRows S (IsRow N) (IsRow V) (IsRow P)
      rows_are = record {
        names_each = λ r there. let it = name_at _ there.1 in (it.q, is_disputed ms (Request it.q), it.there, disputed_is it.q it.there, tail_is _ _ _ _ it.is);
        names_all = names_all;
        names_once = names_once;
        verdicts_each = λ r there. let it = verdict_at _ there.1 in (it.v, it.there, asks_is it.v.of it.v.no it.asked, tail_is _ _ _ _ it.is);
        verdicts_all = has_verdict;
        parked_each = λ r there. let it = parked_at _ there.1 in (it.v, it.there, none_asks it.v.of it.v.no it.asked, tail_is _ _ _ _ it.is);
        parked_all = has_parked;
      }

    -- ---- where they are the rows, the test holds

    module _ (wideN : HaveRowids N) (wideV : HaveRowids V) (wideP : HaveRowids P) (r : AreRows S (IsRow N) (IsRow V) (IsRow P)) where
      name_passes : (x : Row) → Has N x → is_name_row ms x ≡ true
      name_passes x there =
          let w = wideN x there in
          let it = r.names_each w.1 (w.0, subst (Has N) w.2 there) in
          let row : x ≡ w.0 ∷ name_row it.0 it.1 = w.2 ∙ ap (λ (y : List Value). w.0 ∷ y) it.4 in
          subst (λ y. is_name_row ms y ≡ true) (sym row) (shows_name w.0 it.0 it.1 it.2 (mark_is it.0 it.1 it.2 it.3))

      verdict_passes : (x : Row) → Has V x → is_verdict_row ms x ≡ true
      verdict_passes x there =
          let w = wideV x there in
          let it = r.verdicts_each w.1 (w.0, subst (Has V) w.2 there) in
          let row : x ≡ w.0 ∷ verdict_row it.0 = w.2 ∙ ap (λ (y : List Value). w.0 ∷ y) it.3 in
          subst (λ y. is_verdict_row ms y ≡ true) (sym row) (shows_counted w.0 it.0 it.1 (is_asked it.0.of it.0.no it.2))

      parked_passes : (x : Row) → Has P x → is_parked_row ms x ≡ true
      parked_passes x there =
          let w = wideP x there in
          let it = r.parked_each w.1 (w.0, subst (Has P) w.2 there) in
          let row : x ≡ w.0 ∷ parked_row it.0 = w.2 ∙ ap (λ (y : List Value). w.0 ∷ y) it.3 in
          subst (λ y. is_parked_row ms y ≡ true) (sym row) (shows_waiting w.0 it.0 it.1 (not_asked it.0.of it.0.no it.2))

      has_its_name : (m : Message) → Has ms m → has_name_row N m ≡ true
      has_its_name (Request q) there =
          let it = r.names_all q (contains_had ms (Request q) there) in
          some_from (is_of_name q.by q.no) N (it.3.0 ∷ name_row it.0 it.1) it.3.1
          (of_name_by q.by q.no (it.3.0 ∷ name_row it.0 it.1) (ap Text it.2.0) (ap (λ n. Int (pos n)) it.2.1))
      has_its_name (Verdict v) there = refl

      has_its_verdict : (m : Message) → Has ms m → has_verdict_row ms V m ≡ true
      has_its_verdict (Request q) there = refl
      has_its_verdict (Verdict v) there = elim (cases_Bool (asks ms v.of v.no)) [
        | inr is ↦ subst (λ (t : Bool). (not t || list_any (λ r. shows_verdict r (Verdict v)) V) ≡ true) (sym is) refl
        | inl is ↦ subst (λ (t : Bool). (not t || list_any (λ r. shows_verdict r (Verdict v)) V) ≡ true) (sym is)
            (let it = r.verdicts_all v (contains_had ms (Verdict v) there) (asks_is v.of v.no is) in
            some_from (λ r. shows_verdict r (Verdict v)) V (it.0 ∷ verdict_row v) it.1 (is_its_row it.0 v))
      ]

      has_its_parked : (m : Message) → Has ms m → has_parked_row ms P m ≡ true
      has_its_parked (Request q) there = refl
      has_its_parked (Verdict v) there = elim (cases_Bool (asks ms v.of v.no)) [
        | inl is ↦ subst (λ (t : Bool). (not (not t) || list_any (λ r. shows_parked r (Verdict v)) P) ≡ true) (sym is) refl
        | inr is ↦ subst (λ (t : Bool). (not (not t) || list_any (λ r. shows_parked r (Verdict v)) P) ≡ true) (sym is)
            (let it = r.parked_all v (contains_had ms (Verdict v) there) (none_asks v.of v.no is) in
            some_from (λ r. shows_parked r (Verdict v)) P (it.0 ∷ parked_row v) it.1 (is_its_parked it.0 v))
      ]

      once_passes : (x y : Row) → Has N x → Has N y → is_once x y ≡ true
      once_passes x y here there =
          let w = wideN x here in
          let u = wideN y there in
          let a = r.names_each w.1 (w.0, subst (Has N) w.2 here) in
          let b = r.names_each u.1 (u.0, subst (Has N) u.2 there) in
          let ax : x ≡ w.0 ∷ name_row a.0 a.1 = w.2 ∙ ap (λ (z : List Value). w.0 ∷ z) a.4 in
          let by : y ≡ u.0 ∷ name_row b.0 b.1 = u.2 ∙ ap (λ (z : List Value). u.0 ∷ z) b.4 in
          elim (cases_Bool (agree (column x 1) (column y 1) && agree (column x 2) (column y 2))) [
            | inr is ↦ subst (λ (t : Bool). (not t || agree (column x 3) (column y 3)) ≡ true) (sym is) refl
            | inl is ↦
                let both = and_parts _ _ is in
                let of_a = λ (k : ℕ). ap (λ (z : Row). column z k) ax in
                let of_b = λ (k : ℕ). ap (λ (z : Row). column z k) by in
                let asker = one_text _ _ (sym (of_a 1) ∙ agree_is _ _ both.0 ∙ of_b 1) in
                let number = one_number _ _ (sym (of_a 2) ∙ agree_is _ _ both.1 ∙ of_b 2) in
                let one = r.names_once a.0 b.0 a.1 b.1 (asker, number) (w.0, subst (Has N) ax here) (u.0, subst (Has N) by there) in
                subst (λ (t : Bool). (not t || agree (column x 3) (column y 3)) ≡ true) (sym is)
                (agree_text (wire (Request a.0)) (column x 3) (column y 3) (of_a 3) (of_b 3 ∙ sym (ap (λ (z : Row). column z 2) one)))
          ]

      once_all : list_all (λ x. list_all (is_once x) N) N ≡ true
      once_all = test_from (λ x. list_all (is_once x) N) N (λ x here. test_from (is_once x) N (λ y there. once_passes x y here there))

      pub test_holds : are_tests ms N V P ≡ true
      test_holds =
          and_from _ _ (and_from _ _ (test_from (is_name_row ms) N name_passes) (and_from _ _ (test_from (has_name_row N) ms has_its_name) once_all))
          (and_from _ _ (and_from _ _ (test_from (is_verdict_row ms) V verdict_passes) (test_from (has_verdict_row ms V) ms has_its_verdict))
          (and_from _ _ (test_from (is_parked_row ms) P parked_passes) (test_from (has_parked_row ms P) ms has_its_parked)))
