-- What the rows of `desk` and of `messages` that were read tell of the database.
use Rattle.std.proofs.Common.{◌≡◌, ◌≤◌, inl, inr, ℕ, true, false, true≢false, not, List, [], ◌∷◌, length, map, Contains, codes, refl, sym, ap, subst, ◌∙◌}
use Rattle.std.specs.List.{list_any}
use Rattle.std.proofs.lemmas.List.Sorted.{IsPermutation-sym}
use Rattle.std.proofs.lemmas.Bool.{cases_Bool, or_left, or_cases}
use Rattle.sqlite.specs.declared.types.Value.{Value}
use Rattle.sqlite.specs.declared.types.Value.TheVariants.{Null, Int, Real, Text, Blob}
use Rattle.sqlite.specs.Order.{Row, column}
use Rattle.sqlite.specs.Effect.{Database}
use Rattle.sqlite_rules.specs.Lists.{Has}
use Rattle.sqlite_rules.proofs.ListLemmas.{contains_had, has_contained, some_from, some_has}
use Rattle.sqlite_rules.proofs.ProbeLemmas.{has_mapped, mapped_has}
use Rattle.messages.specs.Wire.{wire}
use Rattle.messages.specs.declared.message.Message.{Message}
use Rattle.messages.proofs.Uniqueness.{one_message}
use Rattle.store_tables.specs.Kept.{HoldsText, table_in}
use Rattle.store_tables.specs.Sets.{Lists}
use Rattle.store_tables.specs.Stored.{IsWritten, content_of, has, is_stray, is_text, text_in}
use Rattle.std.specs.Cmp.{eq_by_cmp_equiv}
use Rattle.std.specs.Cmp.Lexicographic.{nat_list_cmp_total}
use Rattle.store_tables.proofs.AddLemmas.{is_same}
use Rattle.store_tables.proofs.TextSets.{contains_bodies, has_text, same_text}
use Rattle.store_schema.specs.declared.part.DeskPart.TheVariants.{Messages}
use Rattle.store_opening.specs.Opened.{HasContents, HasTexts}
use Rattle.store_opening.specs.private.Judged.{AreContents, LackContents}
use Rattle.store_opening.specs.private.Reading.{AreBodies, HasForeign, body}
use Rattle.store_opening.specs.private.Selecting.{ShowsPart, ShowsTexts, shown_of}
use Rattle.store_opening.proofs.Shown.{has_permuted, mark_is}

-- ---- values that are texts

text_there : (t : List ℕ) (v : Value) → list_any (same_text t) (text_in v) ≡ true → v ≡ Text t
text_there t Null h = absurd (true≢false (sym h))
text_there t (Int n) h = absurd (true≢false (sym h))
text_there t (Real x) h = absurd (true≢false (sym h))
text_there t (Text s) h = elim (or_cases (same_text t s) false h) [ inl is ↦ ap Text (sym (is_same t s is)) | inr none ↦ absurd (true≢false (sym none)) ]
text_there t (Blob b) h = absurd (true≢false (sym h))

there_text : (t : List ℕ) (v : Value) → v ≡ Text t → list_any (same_text t) (text_in v) ≡ true
there_text t v e = subst (λ w. list_any (same_text t) (text_in w) ≡ true) (sym e) (or_left (same_text t t) false ((eq_by_cmp_equiv nat_list_cmp_total).refl t))

pub text_of : (v : Value) → not (is_text v) ≡ false → (t : List ℕ) × (v ≡ Text t)
text_of Null h = absurd (true≢false h)
text_of (Int n) h = absurd (true≢false h)
text_of (Real x) h = absurd (true≢false h)
text_of (Text t) h = (t, refl)
text_of (Blob b) h = absurd (true≢false h)

one_text : (s t : List ℕ) → Text s ≡ Text t → s ≡ t
one_text s t e = cc

module _ (db : Database) (rows : List Row) (shows : ShowsPart Messages db rows) where
  abbrev table : List Row
  table = table_in db (codes "messages")

  -- ---- rows of the table, and rows that were read

  row_of : (x : Row) → Has rows x → (r : Row) × Has table r × (x ≡ column r 1 ∷ [])
  row_of x there = has_mapped (shown_of Messages) table x (has_permuted rows (map (shown_of Messages) table) x (IsPermutation-sym _ _ shows) there)

  read_of : (r : Row) → Has table r → Has rows (column r 1 ∷ [])
  read_of r there = has_permuted (map (shown_of Messages) table) rows (column r 1 ∷ []) shows (mapped_has (shown_of Messages) table r there)

  has_row : (t : List ℕ) → has (content_of db) t ≡ true → (r : Row) × Has table r × (column r 1 ≡ Text t)
  has_row t there = let it = some_has (has_text t) table (sym (contains_bodies t table) ∙ there) in (it.0, it.1, text_there t (column it.0 1) it.2)

  pub row_has : (t : List ℕ) (r : Row) → Has table r → column r 1 ≡ Text t → has (content_of db) t ≡ true
  row_has t r there is = contains_bodies t table ∙ some_from (has_text t) table r there (there_text t (column r 1) is)

  -- ---- where they are the texts of messages

  module _ (all : List Message) (are : AreBodies rows all) where
    message_of : (x : Row) → Has rows x → (m : Message) × Has all m × (column x 0 ≡ body m)
    message_of x there = has_mapped body all (column x 0) (subst (λ l. Has l (column x 0)) are.texts (mapped_has (λ (y : Row). column y 0) rows x there))

    shown_of_message : (m : Message) → Has all m → (x : Row) × Has rows x × (body m ≡ column x 0)
    shown_of_message m there = has_mapped (λ (y : Row). column y 0) rows (body m) (subst (λ l. Has l (body m)) (sym are.texts) (mapped_has body all m there))

    -- the message of a row of the table
    message_at : (r : Row) → Has table r → (m : Message) × Has all m × (column r 1 ≡ body m)
    message_at r there = message_of (column r 1 ∷ []) (read_of r there)

    pub listed : Lists (HoldsText db) all
    listed m = (held, back)
      where
        held : HoldsText db m → Contains all m
        held there =
            let r = has_row (wire m) there.1 in
            let it = message_at r.0 r.1 in
            let same : m ≡ it.0 =
            one_message m it.0 there.0 (are.only it.0 (contains_had all it.0 it.1)).message (one_text (wire m) (wire it.0) (sym r.2 ∙ it.2)) in
            subst (Contains all) (sym same) (contains_had all it.0 it.1)

        back : Contains all m → HoldsText db m
        back there =
            let x = shown_of_message m (has_contained all m there) in
            let r = row_of x.0 x.1 in
            ((are.only m there).message, row_has (wire m) r.0 r.1 (sym (ap (λ (y : Row). column y 0) r.2) ∙ sym x.2))

    no_stray : list_any is_stray table ≡ false
    no_stray = elim (cases_Bool (list_any is_stray table)) [
      | inl is ↦ absurd (let r = some_has is_stray table is in let it = message_at r.0 r.1 in true≢false (sym r.2 ∙ ap (λ v. not (is_text v)) it.2))
      | inr is ↦ is
    ]

    written : (t : List ℕ) → has (content_of db) t ≡ true → IsWritten t
    written t there =
        let r = has_row t there in
        let it = message_at r.0 r.1 in
        let keepable = are.only it.0 (contains_had all it.0 it.1) in
        let is : t ≡ wire it.0 = one_text t (wire it.0) (sym r.2 ∙ it.2) in
        (it.0, keepable.message, is, subst (λ s. length s ≤ 16_384) (sym is) keepable.short)

-- where all texts are messages', no row shows another thing
pub none_foreign : (db : Database) (M : List Row) → ShowsPart Messages db M → HasTexts db → ¬ HasForeign M
none_foreign db M shows is foreign =
    let r = row_of db M shows foreign.0 (has_contained M foreign.0 foreign.1) in
    let first : column foreign.0 0 ≡ column r.0 1 = ap (λ (y : Row). column y 0) r.2 in
    let t = text_of (column r.0 1) (plain r.0 r.1) in
    foreign.2 t.0 (first ∙ t.1) (is.only t.0 (row_has db M shows t.0 r.0 r.1 t.1))
  where
    plain : (r : Row) → Has (table_in db (codes "messages")) r → not (is_text (column r 1)) ≡ false
    plain r there = elim (cases_Bool (not (is_text (column r 1)))) [
      | inl stray ↦ absurd (true≢false (sym (some_from is_stray (table_in db (codes "messages")) r there stray) ∙ is.texts))
      | inr fine ↦ fine
    ]

-- ---- the contents

module _ (version : ℕ) (db : Database) (D M : List Row) (shows : ShowsTexts db D M) where
  pub contents_there : (roster : List ℕ) (all : List Message) → AreContents version D M roster all → HasContents version db roster
  contents_there roster all are = record {
    marked = sym (mark_is version db D shows.desk_is) ∙ are.marked;
    utf8 = are.utf8;
    texts = no_stray db M shows.messages_are all are.bodies;
    only = written db M shows.messages_are all are.bodies;
  }

  pub messages_listed : (roster : List ℕ) (all : List Message) → AreContents version D M roster all → Lists (HoldsText db) all
  messages_listed roster all are = listed db M shows.messages_are all are.bodies

  pub none_there : LackContents version D M → (roster : List ℕ) → ¬ HasContents version db roster
  none_there (inl lacks) roster is = lacks roster (mark_is version db D shows.desk_is ∙ is.marked) is.utf8
  none_there (inr foreign) roster is = none_foreign db M shows.messages_are (record { texts = is.texts; only = is.only }) foreign
