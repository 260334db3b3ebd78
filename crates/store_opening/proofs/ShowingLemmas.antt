-- What the rows of a kept desk show follows from the messages that it holds.
use Rattle.std.proofs.Common.{◌≡◌, ◌⊎◌, ◌<◌, ◌+◌, ◌≤◌, ◌&&◌, ◌==◌, inl, inr, ℕ, pos, zero, suc, Bool, true, false, true≢false, if◌then◌else◌}
use Rattle.std.proofs.Common.{List, [], ◌∷◌, ◌++◌, length, get_or, map, take, Contains, codes, refl, sym, ap, subst, ◌∙◌, arith}
use Rattle.std.proofs.lemmas.List.{take_all, take_more}
use Rattle.std.proofs.lemmas.List.Elements.{Contains-append_left, Contains-append_right, Contains-append_cases}
use Rattle.std.proofs.lemmas.List.Sorted.{IsPermutation-sym}
use Rattle.std.proofs.lemmas.Bool.{cases_Bool, and_from, and_parts}
use Rattle.std.proofs.lemmas.Bool.Decides.{Decides-eqb}
use Rattle.std.proofs.lemmas.Slice.Eq.{bytes_eq-Decides}
use Rattle.std.specs.Str.{bytes_eq}
use Rattle.sqlite.specs.declared.types.Value.{Value}
use Rattle.sqlite.specs.declared.types.Value.TheVariants.{Int, Text}
use Rattle.sqlite.specs.Order.{Row, column}
use Rattle.sqlite.specs.Tree.{rowid}
use Rattle.sqlite.specs.View.{is_int}
use Rattle.sqlite.specs.Effect.{Database}
use Rattle.sqlite_rules.specs.Lists.{Has}
use Rattle.sqlite_rules.proofs.ListLemmas.{contains_had, has_contained}
use Rattle.sqlite_rules.proofs.ProbeLemmas.{has_mapped, mapped_has}
use Rattle.messages.specs.Fields.{RequestFields, VerdictFields}
use Rattle.messages.specs.Names.{IsNamed, SameName, name_meant}
use Rattle.messages.specs.NameRows.{IsMarked, ShowSet}
use Rattle.messages.specs.Wire.{wire, kind_text, IsMessage}
use Rattle.messages.specs.declared.name_row.NameRow.{NameRow}
use Rattle.messages.specs.declared.request_name.RequestName.{RequestName}
use Rattle.messages.specs.declared.message.Message.{Message}
use Rattle.messages.specs.declared.message.Message.TheVariants.{Request, Verdict}
use Rattle.messages.proofs.KindLemmas.{one_kind}
use Rattle.messages.proofs.Uniqueness.{one_message}
use Rattle.store_tables.specs.Kept.{HoldsText, IsKeyed, table_in}
use Rattle.store_tables.specs.Rows.{AreRows, Asks, IsRow, name_row, parked_row, verdict_row}
use Rattle.store_schema.specs.declared.part.DeskPart.{DeskPart}
use Rattle.store_schema.specs.declared.part.DeskPart.TheVariants.{Names, Verdicts, Parked}
use Rattle.store_opening.specs.Opened.{IsKept}
use Rattle.store_opening.specs.private.Reading.{IsKeepable}
use Rattle.store_opening.specs.private.Selecting.{ShowsRows, shown_of}
use Rattle.store_opening.specs.private.Showing.{AreShown, ShowsName, ShowsParked, ShowsVerdict}
use Rattle.store_opening.proofs.Shown.{has_permuted}

-- ---- rows in turn

module _ {X : Type 0} (Shows : Row → X → Type 0) where
  -- what the row at a place shows
  pub shown_at : (rows : List Row) (xs : List X) (i : ℕ) (r : Row) → AreShown Shows rows xs
      → i < length rows → r ≡ get_or rows i r → (x : X) × Shows r x × (take (i + 1) xs ≡ take i xs ++ x ∷ [])
  shown_at rows xs i r are within is =
      let it = at rows xs i r are within is in
      (it.0, it.1, take_more xs i it.0 it.2 ∙ ap (λ y. take i xs ++ y ∷ []) it.3)
    where
      at : (rows : List Row) (xs : List X) (i : ℕ) (r : Row) → AreShown Shows rows xs → i < length rows
          → r ≡ get_or rows i r → (x : X) × Shows r x × (i < length xs) × (get_or xs i x ≡ x)
      at [] xs i r are within is = absurd (omega (arith, within))
      at (s ∷ rs) [] i r are within is = absurd are
      at (s ∷ rs) (x ∷ xs) zero r are within is = (x, subst (λ y. Shows y x) (sym is) are.0, omega arith, refl)
      at (s ∷ rs) (x ∷ xs) (suc i) r are within is =
          let it = at rs xs i r are.1 (omega (arith, within)) is in
          let low = it.2 in
          (it.0, it.1, omega (arith, low), it.3)

  lengths_shown : (rows : List Row) (xs : List X) → AreShown Shows rows xs → length xs ≡ length rows
  lengths_shown [] [] are = refl
  lengths_shown [] (x ∷ xs) are = absurd are
  lengths_shown (r ∷ rs) [] are = absurd are
  lengths_shown (r ∷ rs) (x ∷ xs) are = ap suc (lengths_shown rs xs are.1)

  pub all_taken : (rows : List Row) (xs : List X) (i : ℕ) → AreShown Shows rows xs → length rows ≤ i → take i xs ≡ xs
  all_taken rows xs i are over = let same = lengths_shown rows xs are in take_all i xs (omega (arith, same, over))

  -- where each row shows something, there is what they show
  each_shown : (rows : List Row) → ((r : Row) → Has rows r → (x : X) × Shows r x) → (xs : List X) × AreShown Shows rows xs
  each_shown [] each = ([], tt)
  each_shown (r ∷ rs) each =
      let here = each r (inl refl) in
      let more = each_shown rs (λ s there. each s (inr there)) in
      (here.0 ∷ more.0, (here.1, more.1))

  row_shown : (rows : List Row) (xs : List X) → AreShown Shows rows xs → (x : X) → Has xs x → (r : Row) × Has rows r × Shows r x
  row_shown [] [] are x has = absurd has
  row_shown [] (y ∷ ys) are x has = absurd are
  row_shown (r ∷ rs) [] are x has = absurd are
  row_shown (r ∷ rs) (y ∷ ys) are x (inl same) = (r, inl refl, subst (Shows r) (sym same) are.0)
  row_shown (r ∷ rs) (y ∷ ys) are x (inr later) = let it = row_shown rs ys are.1 x later in (it.0, inr it.1, it.2)

  shown_row : (rows : List Row) (xs : List X) → AreShown Shows rows xs → (r : Row) → Has rows r → (x : X) × Has xs x × Shows r x
  shown_row [] xs are r has = absurd has
  shown_row (s ∷ rs) [] are r has = absurd are
  shown_row (s ∷ rs) (y ∷ ys) are r (inl same) = (y, inl refl, subst (λ x. Shows x y) (sym same) are.0)
  shown_row (s ∷ rs) (y ∷ ys) are r (inr later) = let it = shown_row rs ys are.1 r later in (it.0, inr it.1, it.2)

shown_weaker : {X : Type 0} (P Q : Row → X → Type 0) → ((r : Row) (x : X) → P r x → Q r x)
    → (rows : List Row) (xs : List X) → AreShown P rows xs → AreShown Q rows xs
shown_weaker P Q each [] [] are = tt
shown_weaker P Q each [] (x ∷ xs) are = absurd are
shown_weaker P Q each (r ∷ rs) [] are = absurd are
shown_weaker P Q each (r ∷ rs) (x ∷ xs) are = (each r x are.0, shown_weaker P Q each rs xs are.1)

-- ---- rows of a table, and rows that were read

-- a row with a rowid has a first column
row_parts : (r : Row) → is_int (rowid r) ≡ true → (id : Value) × (values : List Value) × (r ≡ id ∷ values)
row_parts [] is = absurd (true≢false (sym is))
row_parts (id ∷ values) is = (id, values, refl)

module _ (p : DeskPart) (table rows : List Row) (keyed : IsKeyed table) (shows : Rattle.std.specs.List.Sorted.IsPermutation (map (shown_of p) table) rows) where
  table_row : (r : Row) → Has rows r → (id : Value) × (values : List Value) × IsRow table values × (r ≡ shown_of p (id ∷ values))
  table_row r there =
      let o = has_mapped (shown_of p) table r (has_permuted rows (map (shown_of p) table) r (IsPermutation-sym _ _ shows) there) in
      let parts = row_parts o.0 (keyed.ints o.0 o.1) in
      (parts.0, parts.1, (parts.0, subst (Has table) parts.2 o.1), o.2 ∙ ap (shown_of p) parts.2)

  read_row : (values : List Value) → IsRow table values → (id : Value) × Has rows (shown_of p (id ∷ values))
  read_row values there = (there.0, has_permuted (map (shown_of p) table) rows _ shows (mapped_has (shown_of p) table (there.0 ∷ values) there.1))

-- ---- rows that are one

one_text : (s t : List ℕ) → Text s ≡ Text t → s ≡ t
one_text s t e = cc

one_number : (m n : ℕ) → Int (pos m) ≡ Int (pos n) → m ≡ n
one_number m n e = cc

one_flag : (a b : Bool) → Int (if a then pos 1 else pos 0) ≡ Int (if b then pos 1 else pos 0) → a ≡ b
one_flag true true e = refl
one_flag true false e = absurd (let wrong : ◌≡◌ {A = ℕ} 1 0 = one_number 1 0 e in omega (arith, wrong))
one_flag false true e = absurd (let wrong : ◌≡◌ {A = ℕ} 0 1 = one_number 0 1 e in omega (arith, wrong))
one_flag false false e = refl

abbrev Column : ℕ → List Value → Value
Column at values = column values at

name_parts : (p q : RequestFields) (a b : Bool) → name_row p a ≡ name_row q b → SameName p q × (wire (Request p) ≡ wire (Request q)) × (a ≡ b)
name_parts p q a b e = (
  (one_text p.by q.by (ap (Column 0) e), one_number p.no q.no (ap (Column 1) e)),
  one_text (wire (Request p)) (wire (Request q)) (ap (Column 2) e),
  one_flag a b (ap (Column 3) e),
)

one_verdict : (v w : VerdictFields) → verdict_row v ≡ verdict_row w → v ≡ w
one_verdict v w e =
    let of_is = one_text v.of w.of (ap (Column 0) e) in
    let no_is = one_number v.no w.no (ap (Column 1) e) in
    let by_is = one_text v.by w.by (ap (Column 2) e) in
    let kind_is = one_kind v.kind w.kind (one_text (kind_text v.kind) (kind_text w.kind) (ap (Column 3) e)) in
    let at_is = one_number v.at w.at (ap (Column 4) e) in
    λ i. record { at = at_is i; by = by_is i; kind = kind_is i; no = no_is i; of = of_is i }

one_parked : (v w : VerdictFields) → IsMessage (Verdict v) → IsMessage (Verdict w) → parked_row v ≡ parked_row w → v ≡ w
one_parked v w a b e =
    let same : ◌≡◌ {A = Message} (Verdict v) (Verdict w) =
    one_message (Verdict v) (Verdict w) a b (one_text (wire (Verdict v)) (wire (Verdict w)) (ap (Column 0) e)) in
    cc

rest_of : (a b : Value) (xs ys : List Value) → ◌≡◌ {A = List Value} (a ∷ xs) (b ∷ ys) → xs ≡ ys
rest_of a b xs ys e = cc

-- ---- whether a name has a row

is_of : RequestName → NameRow → Bool
is_of name row = bytes_eq row.request.by name.by && (row.request.no == name.no)

named_cases : (name : RequestName) (row : NameRow) → IsNamed row.request name ⊎ (¬ IsNamed row.request name)
unfolding is_of
named_cases name row = elim (cases_Bool (is_of name row)) as (λ _. IsNamed row.request name ⊎ (¬ IsNamed row.request name)) [
  | inl is ↦
      let both = and_parts (bytes_eq row.request.by name.by) (row.request.no == name.no) is in
      inl ((bytes_eq-Decides row.request.by name.by).0 both.0, (Decides-eqb row.request.no name.no).0 both.1)
  | inr other ↦ inr (λ named. true≢false (sym (and_from (bytes_eq row.request.by name.by)
      (row.request.no == name.no) ((bytes_eq-Decides row.request.by name.by).1 named.0) ((Decides-eqb row.request.no name.no).1 named.1)) ∙ other))
]

named_among : (names : List NameRow) (name : RequestName)
    → ((row : NameRow) × Has names row × IsNamed row.request name) ⊎ ((row : NameRow) → Has names row → ¬ IsNamed row.request name)
named_among [] name = inr (λ row has _. has)
named_among (r ∷ rs) name = elim (named_cases name r)
    as (λ _. ((row : NameRow) × Has (r ∷ rs) row × IsNamed row.request name) ⊎ ((row : NameRow) → Has (r ∷ rs) row → ¬ IsNamed row.request name)) [
      | inl named ↦ inl (r, inl refl, named)
      | inr other ↦ elim (named_among rs name)
          as (λ _. ((row : NameRow) × Has (r ∷ rs) row × IsNamed row.request name) ⊎ ((row : NameRow) → Has (r ∷ rs) row → ¬ IsNamed row.request name)) [
            | inl later ↦ inl (later.0, inr later.1, later.2)
            | inr none ↦ inr (λ row has named. elim has as (λ _. ⊥) [
              | inl same ↦ other (subst (λ (x : NameRow). IsNamed x.request name) same named)
              | inr there ↦ none row there named
            ])
          ]
    ]

-- ---- the desk

module _ (db : Database) (kept : IsKept db) (N V P : List Row) (rows : ShowsRows db N V P) where
  abbrev S : Message → Type 0
  S = HoldsText db

  abbrev tables : AreRows S (IsRow (table_in db (codes "names"))) (IsRow (table_in db (codes "verdicts"))) (IsRow (table_in db (codes "parked")))
  tables = kept.desk.rows

  keepable : (m : Message) → S m → IsKeepable m
  keepable m held =
      let written = kept.desk.only (wire m) held.1 in
      record { message = held.0; short = written.3 }

  -- what a row of `names` shows, and what holds for it
  record Named (r : Row) (shown : NameRow) : Type 0 where
    row : ShowsName r shown
    held : S (Request shown.request)
    marked : IsMarked S shown.request shown.is_disputed
    there : IsRow (table_in db (codes "names")) (name_row shown.request shown.is_disputed)

  named_each : (r : Row) → Has N r → (shown : NameRow) × Named r shown
  named_each r has =
      let it = table_row Names (table_in db (codes "names")) N kept.desk.tidy.names.keyed rows.names_are r has in
      let says = tables.names_each it.1 it.2 in (
        record { request = says.0; is_disputed = says.1 },
        record {
          row = record { id = it.0; is = it.3 ∙ ap (λ values. shown_of Names (it.0 ∷ values)) says.4; keepable = keepable (Request says.0) says.2 };
          held = says.2;
          marked = says.3;
          there = subst (IsRow (table_in db (codes "names"))) says.4 it.2;
        },
      )

  record Counted (r : Row) (v : VerdictFields) : Type 0 where
    row : ShowsVerdict r v
    held : S (Verdict v)

  counted_each : (r : Row) → Has V r → (v : VerdictFields) × Counted r v
  counted_each r has =
      let it = table_row Verdicts (table_in db (codes "verdicts")) V kept.desk.tidy.verdicts rows.verdicts_are r has in
      let says = tables.verdicts_each it.1 it.2 in (
        says.0,
        record {
          row = record { id = it.0; is = it.3 ∙ ap (λ values. shown_of Verdicts (it.0 ∷ values)) says.3; lawful = says.1.0 };
          held = says.1;
        },
      )

  record Waiting (r : Row) (v : VerdictFields) : Type 0 where
    row : ShowsParked r v
    held : S (Verdict v)

  waiting_each : (r : Row) → Has P r → (v : VerdictFields) × Waiting r v
  waiting_each r has =
      let it = table_row Parked (table_in db (codes "parked")) P kept.desk.tidy.parked.keyed rows.parked_are r has in
      let says = tables.parked_each it.1 it.2 in (
        says.0,
        record {
          row = record { id = it.0; is = it.3 ∙ ap (λ values. shown_of Parked (it.0 ∷ values)) says.3; keepable = keepable (Verdict says.0) says.1 };
          held = says.1;
        },
      )

  module _ (names : List NameRow) (counted waiting : List VerdictFields) (ns : AreShown Named N names)
      (vs : AreShown Counted V counted) (ps : AreShown Waiting P waiting) where
    name_is : (row : NameRow) → Contains names row → (r : Row) × Has N r × Named r row
    name_is row among = row_shown Named N names ns row (has_contained names row among)

    all_named : (q : RequestFields) → S (Request q) → (row : NameRow) × Contains names row × SameName row.request q
    all_named q held =
        let it = tables.names_all q held in
        let read = read_row Names (table_in db (codes "names")) N kept.desk.tidy.names.keyed rows.names_are (name_row it.0 it.1) it.3 in
        let found = shown_row Named N names ns _ read.1 in
        let same : name_row it.0 it.1 ≡ name_row found.0.request found.0.is_disputed = rest_of _ _ _ _ found.2.row.is in
        let alike = (name_parts it.0 found.0.request it.1 found.0.is_disputed same).0 in
        (found.0, contains_had names found.0 found.1, (sym alike.0 ∙ it.2.0, sym alike.1 ∙ it.2.1))

    once_named : (a b : NameRow) → Contains names a → Contains names b → SameName a.request b.request → a ≡ b
    once_named a b here there alike =
        let x = name_is a here in
        let y = name_is b there in
        let same = tables.names_once a.request b.request a.is_disputed b.is_disputed alike x.2.there y.2.there in
        let parts = name_parts a.request b.request a.is_disputed b.is_disputed same in
        let both : ◌≡◌ {A = Message} (Request a.request) (Request b.request) =
        one_message (Request a.request) (Request b.request) x.2.held.0 y.2.held.0 parts.1 in
        let request : a.request ≡ b.request = cc in
        λ i. record { request = request i; is_disputed = parts.2 i }

    counts : (v : VerdictFields) → S (Verdict v) → Asks S (name_meant v) → Contains counted v
    counts v held asks =
        let read =
        read_row Verdicts (table_in db (codes "verdicts")) V kept.desk.tidy.verdicts rows.verdicts_are (verdict_row v) (tables.verdicts_all v held asks) in
        let found = shown_row Counted V counted vs _ read.1 in
        subst (Contains counted) (sym (one_verdict v found.0 (rest_of _ _ _ _ found.2.row.is))) (contains_had counted found.0 found.1)

    waits : (v : VerdictFields) → S (Verdict v) → (¬ Asks S (name_meant v)) → Contains waiting v
    waits v held none =
        let read =
        read_row Parked (table_in db (codes "parked")) P kept.desk.tidy.parked.keyed rows.parked_are (parked_row v) (tables.parked_all v held none) in
        let found = shown_row Waiting P waiting ps _ read.1 in
        subst (Contains waiting) (sym (one_parked v found.0 held.0 found.2.held.0 (rest_of _ _ _ _ found.2.row.is))) (contains_had waiting found.0 found.1)

    given_back : (v : VerdictFields) → S (Verdict v) → Contains (counted ++ waiting) v
    given_back v held = elim (named_among names (name_meant v)) as (λ _. Contains (counted ++ waiting) v) [
      | inl it ↦
          let is = name_is it.0 (contains_had names it.0 it.1) in
          Contains-append_left counted waiting v (counts v held (it.0.request, is.2.held, it.2))
      | inr none ↦ Contains-append_right counted waiting v (waits v held (λ asks.
          let row = all_named asks.0 asks.1 in
          none row.0 (has_contained names row.0 row.1) (row.2.0 ∙ asks.2.0, row.2.1 ∙ asks.2.1)))
    ]

    set_shown : ShowSet S names (counted ++ waiting)
    set_shown = record {
      each = λ row among. let is = name_is row among in (is.2.held, is.2.marked);
      all = all_named;
      once = once_named;
      given = λ v. (
        λ among. elim (Contains-append_cases counted waiting v among) as (λ _. S (Verdict v)) [
          | inl here ↦ (row_shown Counted V counted vs v (has_contained counted v here)).2.held
          | inr there ↦ (row_shown Waiting P waiting ps v (has_contained waiting v there)).2.held
        ],
        given_back v,
      );
    }

  pub record Tells : Type 0 where
    pub names : List NameRow
    pub counted : List VerdictFields
    pub waiting : List VerdictFields
    pub names_shown : AreShown ShowsName N names
    pub counted_shown : AreShown ShowsVerdict V counted
    pub waiting_shown : AreShown ShowsParked P waiting
    pub set : ShowSet (HoldsText db) names (counted ++ waiting)

  pub tells : Tells
  tells =
      let n = each_shown Named N named_each in
      let v = each_shown Counted V counted_each in
      let p = each_shown Waiting P waiting_each in
      record {
        names = n.0;
        counted = v.0;
        waiting = p.0;
        names_shown = shown_weaker Named ShowsName (λ r x is. is.row) N n.0 n.1;
        counted_shown = shown_weaker Counted ShowsVerdict (λ r x is. is.row) V v.0 v.1;
        waiting_shown = shown_weaker Waiting ShowsParked (λ r x is. is.row) P p.0 p.1;
        set = set_shown n.0 v.0 p.0 n.1 v.1 p.1;
      }
