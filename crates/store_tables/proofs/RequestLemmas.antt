-- How the steps of an arriving request combine into one.
use Rattle.std.proofs.Common.{◌≡◌, ◌⊎◌, inl, inr, ℕ, List, [], ◌∷◌, ◌++◌, codes, Bool, true, false, IsTrue, refl, sym, ap, subst, ◌∙◌}
use Rattle.std.specs.FinSet as set
use Rattle.sqlite.specs.declared.types.Value.{Value}
use Rattle.sqlite.specs.Order.{Row, column}
use Rattle.sqlite.specs.Effect.{Database}
use Rattle.sqlite.specs.State.{HasCleanDisk, State}
use Rattle.sqlite_rules.specs.Lists.{Has}
use Rattle.sqlite_rules.proofs.ListLemmas.{has_either, has_left, has_right}
use Rattle.messages.specs.Fields.{RequestFields, VerdictFields, IsRequest}
use Rattle.messages.specs.Names.{name_of}
use Rattle.messages.specs.declared.request_name.RequestName.{RequestName}
use Rattle.messages.specs.Wire.{wire}
use Rattle.messages.specs.declared.message.Message.TheVariants.{Request}
use Rattle.store_tables.specs.Sets.{With}
use Rattle.store_tables.specs.Rows.{AreRows, RowSet, IsRow, OfName, name_row, verdict_row}
use Rattle.store_tables.specs.Stored.{Texts}
use Rattle.store_tables.specs.Kept.{HasRows, Holds, IsTidy}
use Rattle.store_tables.specs.private.Changes.{Gains, Joins, Loses, Names, Tells}
use Rattle.store_tables.specs.private.Stepping.{Finds, FindsParked, ShowsParked, Wrote, name_values}
use Rattle.store_tables.specs.Steps.{IsStep}
use Rattle.store_tables.specs.private.Turning.{JoinedParked, JoinsAll, JoinsOne, JoinsParked, Renames}
use Rattle.store_tables.specs.private.Turning.{Rowwise, Settled, Settles, ShowsVerdict, Stays, Turned, Turns}
use Rattle.store_tables.proofs.RowSets.{asked, rows_same}
use Rattle.store_tables.proofs.TurnLemmas.{clean_before, rows_at, spares_then, then_step, turned_names, turned_parked, with_one}

-- ---- the name's row

names_anew : (q : RequestFields) (told : Bool) (A B C : RowSet) → Tells A (name_of q) told
    → Loses (OfName 0 (name_of q)) A B → Gains (name_row q told) B C → Names q told A C
names_anew q told A B C tells loses gains = record {
  told = tells;
  each = λ r there. elim (gains.each r there) [ inl before ↦ inl (loses.each r before) | inr is ↦ inr is ];
  kept = λ r was other. gains.kept r (loses.kept r was other);
  there = gains.there;
}

names_turned : (q : RequestFields) (told : Bool) (a b c : Database) → Tells (rows_at a (codes "names")) (name_of q) told
    → Turns (Rowwise (Loses (OfName 0 (name_of q)))) Stays Stays a b
    → Turns (Rowwise (Gains (name_row q told))) Stays Stays b c → Turns (Rowwise (Renames q)) Stays Stays a c
names_turned q told a b c tells one two = record {
  sound = λ s. two.sound (one.sound s);
  schema = two.schema ∙ one.schema;
  tidy = two.tidy;
  names = (told, names_anew q told (rows_at a (codes "names")) (rows_at b (codes "names")) (rows_at c (codes "names")) tells one.names two.names);
  verdicts = two.verdicts ∙ one.verdicts;
  parked = two.parked ∙ one.parked;
  desk = two.desk ∙ one.desk;
  messages = two.messages ∙ one.messages;
  spares = spares_then a b c one.spares two.spares;
}

pub renamed : (q : RequestFields) (body asker : List ℕ) (n : ℕ) (told : Bool) (a b c d : State) → body ≡ wire (Request q) → asker ≡ q.by → n ≡ q.no
    → Finds (name_of q) told a b → Wrote (codes "names") (Loses (OfName 0 (name_of q))) b c
    → Wrote (codes "names") (Gains (name_values asker n body told)) c d → Turned (Rowwise (Renames q)) Stays Stays a d
renamed q body asker n told a b c d text by number finds lost put =
    let same : name_values asker n body told ≡ name_row q told = rw (by, number, text) refl in
    let one = turned_names b c (Loses (OfName 0 (name_of q))) lost in
    let two = turned_names c d (Gains (name_row q told)) (subst (λ r. Wrote (codes "names") (Gains r) c d) same put) in
    record {
      mode = two.mode;
      turns = λ tidy.
          let is = finds.same tidy in
          let first = one.turns (subst IsTidy (sym is) tidy) in
          names_turned q told a.now c.now d.now (finds.tells tidy)
          (subst (λ x. Turns (Rowwise (Loses (OfName 0 (name_of q)))) Stays Stays x c.now) is first) (two.turns first.tidy);
    }

-- ---- the parked verdicts

-- the state after the rows that were gone through so far
pub record Joining (rows : List Row) (old now : State) : Type 0 where
  pub step : IsStep old now
  pub turned : HasCleanDisk now → IsTrue old.in_transaction → Turned Stays (Rowwise (JoinsAll rows)) Stays old now

one_more : (rows : List Row) (x : Row) (A B C : RowSet) → JoinsAll rows A B → JoinsOne x B C → JoinsAll (rows ++ x ∷ []) A C
one_more rows x A B C all one = record { each = each; kept = λ r was. one.2.kept r (all.kept r was); joined = joined }
  where
    each : (r : List Value) → C r → A r ⊎ ((v : VerdictFields) × (y : Row) × Has (rows ++ x ∷ []) y × ShowsVerdict y v × (r ≡ verdict_row v))
    each r there = elim (one.2.each r there) [
      | inl before ↦ elim (all.each r before) [
        | inl was ↦ inl was
        | inr moved ↦ inr (moved.0, moved.1, has_left rows (x ∷ []) moved.1 moved.2, moved.3, moved.4)
      ]
      | inr is ↦ inr (one.0, x, has_right rows (x ∷ []) x (inl refl), one.1, is)
    ]

    joined : (y : Row) → Has (rows ++ x ∷ []) y → (v : VerdictFields) × ShowsVerdict y v × C (verdict_row v)
    joined y there = elim (has_either rows (x ∷ []) y there) [
      | inl before ↦ let it = all.joined y before in (it.0, it.1, one.2.kept (verdict_row it.0) it.2)
      | inr now ↦ elim now [
        | inl same ↦ (one.0, subst (λ z. ShowsVerdict z one.0) (sym same) one.1, one.2.there)
        | inr none ↦ absurd none
      ]
    ]

pub joined_more : (rows more : List Row) (x : Row) (a b c : State) → more ≡ rows ++ x ∷ [] → Turned Stays (Rowwise (JoinsAll rows)) Stays a b
    → Turned Stays (Rowwise (JoinsOne x)) Stays b c → Turned Stays (Rowwise (JoinsAll more)) Stays a c
joined_more rows more x a b c is one two = record {
  mode = two.mode;
  turns = λ tidy.
      let first = one.turns tidy in
      let second = two.turns first.tidy in
      record {
        sound = λ s. second.sound (first.sound s);
        schema = second.schema ∙ first.schema;
        tidy = second.tidy;
        names = second.names ∙ first.names;
        verdicts = subst (λ rs. JoinsAll rs (rows_at a.now (codes "verdicts")) (rows_at c.now (codes "verdicts"))) (sym is) (one_more rows x
            (rows_at a.now (codes "verdicts")) (rows_at b.now (codes "verdicts")) (rows_at c.now (codes "verdicts")) first.verdicts second.verdicts);
        parked = second.parked ∙ first.parked;
        desk = second.desk ∙ first.desk;
        messages = second.messages ∙ first.messages;
        spares = spares_then a.now b.now c.now first.spares second.spares;
      };
}

pub joining_more : (rows more : List Row) (x : Row) (a b c : State) → more ≡ rows ++ x ∷ [] → Joining rows a b → IsStep b c
    → (HasCleanDisk c → IsTrue b.in_transaction → Turned Stays (Rowwise (JoinsOne x)) Stays b c) → Joining more a c
joining_more rows more x a b c is one step next = record {
  step = then_step a b c one.step (λ clean inside. (one.turned clean inside).mode) step;
  turned = λ clean inside.
      let first = one.turned (clean_before b c _ step.survives clean) inside in
      joined_more rows more x a b c is first (next clean first.mode);
}

shown_joins : (name : RequestName) (rows : List Row) (P V W : RowSet) → ShowsParked name P rows → JoinsAll rows V W → Joins name P V W
shown_joins name rows P V W shows all = record {
  each = λ r there. elim (all.each r there) [
    | inl was ↦ inl was
    | inr moved ↦
        let of = shows.each moved.1 moved.2 in
        inr (moved.0, of.0, of.1, of.2, (moved.3.0, sym (ap (λ x. column x 0) of.3) ∙ moved.3.1), moved.4)
  ];
  kept = all.kept;
  joined = λ p there of_name. let it = all.joined (column p 0 ∷ []) (shows.all p there of_name) in (it.0, it.1, it.2);
}

parked_joined : (name : RequestName) (rows : List Row) (a b c : Database) → ShowsParked name (rows_at a (codes "parked")) rows
    → Turns Stays (Rowwise (JoinsAll rows)) Stays a b → Turns Stays Stays (Rowwise (Loses (OfName 1 name))) b c → JoinsParked name a c
parked_joined name rows a b c shows one two = record {
  sound = λ s. two.sound (one.sound s);
  schema = two.schema ∙ one.schema;
  tidy = two.tidy;
  names = two.names ∙ one.names;
  verdicts = subst (λ v. Joins name (rows_at a (codes "parked")) (rows_at a (codes "verdicts")) (IsRow v)) (sym two.verdicts)
      (shown_joins name rows (rows_at a (codes "parked")) (rows_at a (codes "verdicts")) (rows_at b (codes "verdicts")) shows one.verdicts);
  parked = subst (λ p. Loses (OfName 1 name) (IsRow p) (rows_at c (codes "parked"))) one.parked two.parked;
  desk = two.desk ∙ one.desk;
  messages = two.messages ∙ one.messages;
  spares = spares_then a b c one.spares two.spares;
}

pub joins_parked : (name : RequestName) (rows : List Row) (a b c d : State) → FindsParked name rows a b
    → Turned Stays (Rowwise (JoinsAll rows)) Stays b c → Wrote (codes "parked") (Loses (OfName 1 name)) c d → JoinedParked name a d
joins_parked name rows a b c d finds one lost =
    let two = turned_parked c d (Loses (OfName 1 name)) lost in
    record {
      mode = two.mode;
      joins = λ tidy.
          let is = finds.same tidy in
          let first = one.turns (subst IsTidy (sym is) tidy) in
          parked_joined name rows a.now c.now d.now (finds.shows tidy)
          (subst (λ x. Turns Stays (Rowwise (JoinsAll rows)) Stays x c.now) is first) (two.turns first.tidy);
    }

-- ---- a request settles

settles_asked : (q : RequestFields) → IsRequest q → (a b c : Database)
    → Turns (Rowwise (Renames q)) Stays Stays a b → JoinsParked (name_of q) b c → Settles (Request q) a c
settles_asked q is a b c one two = record {
  sound = λ s. two.sound (one.sound s);
  schema = two.schema ∙ one.schema;
  tidy = two.tidy;
  rows = rows;
  desk = two.desk ∙ one.desk;
  messages = two.messages ∙ one.messages;
  spares = spares_then a b c one.spares two.spares;
}
  where
    rows : (texts : Texts) → set.contains texts (wire (Request q)) ≡ false → HasRows texts a → HasRows (set.insert texts (wire (Request q))) c
    rows texts new has =
        let names = rows_at b (codes "names") in
        let verdicts = rows_at c (codes "verdicts") in
        let parked = rows_at c (codes "parked") in
        let V = rows_at a (codes "verdicts") in
        let P = rows_at a (codes "parked") in
        let none : (Holds texts (Request q) → ⊥) = λ held. absurd (let e : true ≡ false = sym held.1 ∙ new in cc) in
        let joins = subst (λ p. Joins (name_of q) (IsRow p) V verdicts) one.parked
        (subst (λ v. Joins (name_of q) (rows_at b (codes "parked")) (IsRow v) verdicts) one.verdicts two.verdicts) in
        let loses = subst (λ p. Loses (OfName 1 (name_of q)) (IsRow p) parked) one.parked two.parked in
        let now = asked (Holds texts) q (λ m held. held.0) none (rows_at a (codes "names")) V P has one.names.0 names one.names.1 verdicts parked joins loses in
        let all = subst (λ n. AreRows (With (Holds texts) (Request q)) (IsRow n) verdicts parked) (sym two.names) now in
        rows_same (With (Holds texts) (Request q)) (Holds (set.insert texts (wire (Request q))))
        (with_one texts (Request q) is) (rows_at c (codes "names")) verdicts parked all

pub request_settled : (q : RequestFields) → IsRequest q → (a b c : State)
    → Turned (Rowwise (Renames q)) Stays Stays a b → JoinedParked (name_of q) b c → Settled (Request q) a c
request_settled q is a b c one two = record {
  mode = two.mode;
  settles = λ tidy. let first = one.turns tidy in settles_asked q is a.now b.now c.now first (two.joins first.tidy);
}
