-- How the steps of a transaction combine into one.
use Rattle.std.proofs.Common.{◌≡◌, ◌≢◌, ◌⊎◌, inl, inr, ℕ, List, [], ◌∷◌, codes, Bool, true, false, ◌||◌}
use Rattle.std.proofs.Common.{IsTrue, Result, Ok, Err, OnOk, slice_index_or, refl, sym, ap, subst, ◌∙◌, arith}
use Rattle.std.specs.List.{AllByRecursion}
use Rattle.std.specs.FinSet as set
use Rattle.sqlite.specs.Schema.{Schema}
use Rattle.sqlite.specs.Table.{Table}
use Rattle.sqlite.specs.Tree.{Trees}
use Rattle.sqlite.specs.Effect.{Database}
use Rattle.sqlite.specs.State.{HasCleanDisk, KeepsCommit, State, Survives}
use Rattle.sqlite.specs.Held.{state}
use Rattle.sqlite.specs.declared.transaction.Transaction.{Transaction}
use Rattle.sqlite_trees.specs.declared.store.Store.{Ghosts}
use Rattle.sqlite.proofs.StateLemmas.{survives_then}
use Rattle.sqlite_rules.specs.Lists.{Has}
use Rattle.store_tables.specs.DeskTables.{desk_at, messages_at, names_at, verdicts_at, parked_at}
use Rattle.std.specs.Cmp.Lexicographic.{nat_list_cmp_total}
use Rattle.std.specs.Ordering.{is_eq}
use Rattle.std.proofs.lemmas.Cmp.{tied_itself}
use Rattle.std.proofs.lemmas.Bool.{or_cases}
use Rattle.messages.specs.Fields.{RequestFields, VerdictFields, IsVerdict}
use Rattle.messages.specs.Names.{name_meant, name_of}
use Rattle.messages.specs.declared.request_name.RequestName.{RequestName}
use Rattle.messages.specs.Wire.{kind_text, wire, IsMessage}
use Rattle.messages.specs.declared.message.Message.{Message}
use Rattle.messages.specs.declared.message.Message.TheVariants.{Verdict}
use Rattle.messages.proofs.Uniqueness.{one_message}
use Rattle.store_tables.specs.Sets.{SameSet, With}
use Rattle.store_tables.specs.Rows.{AreRows, RowSet, IsRow, parked_row, verdict_row}
use Rattle.store_tables.specs.Stored.{Finds as Places, HasDesk, Texts, tree_of}
use Rattle.store_tables.specs.Kept.{HasRows, Holds, IsForeign, IsTidy, Spares, table_in}
use Rattle.store_tables.specs.private.Changes.{Gains, Tells}
use Rattle.store_tables.specs.Steps.{KeepsBut}
use Rattle.store_tables.specs.private.Stepping.{Alters, Finds, Wrote, parked_values, verdict_values}
use Rattle.store_tables.specs.Steps.{IsStep, TakesStep}
use Rattle.store_tables.specs.private.Turning.{Rowwise, Settled, Settles, Stays, Turned, Turns}
use Rattle.store_tables.proofs.AddLemmas.{is_same}
use Rattle.store_tables.proofs.RowSets.{counted, parks, rows_same}
use Rattle.store_tables.proofs.StepLemmas.{kept}
use Rattle.store_tables.proofs.TextSets.{same_text}

-- ---- steps that commit nothing

pub survives_both : (a b c : State) → Survives a b (λ _. ⊥) → Survives b c (λ _. ⊥) → Survives a c (λ _. ⊥)
survives_both a b c one two = survives_then a b c _ _ (λ _. ⊥) (λ _ db none. none) (λ _ db none. none) one two

-- a disk that is honest behind a step was so before it
pub clean_before : (old new : State) (P : Trees → Type 0) → Survives old new P → HasCleanDisk new → HasCleanDisk old
clean_before old new P lives clean = let before = lives.clean in omega (arith, before, clean)

keeps_both : (a b c : State) → KeepsCommit a b → KeepsCommit b c → KeepsCommit a c
keeps_both a b c one two = record {
  was_open = λ is_open. one.was_open (two.was_open is_open);
  committed = λ is_open. two.committed is_open ∙ one.committed (two.was_open is_open);
}

pub then_step : (a b c : State) → IsStep a b → (HasCleanDisk b → IsTrue a.in_transaction → IsTrue b.in_transaction) → IsStep b c → IsStep a c
then_step a b c one on two = record {
  survives = survives_both a b c one.survives two.survives;
  kept = λ clean inside. let clean_b = clean_before b c _ two.survives clean in keeps_both a b c (one.kept clean_b inside) (two.kept clean (on clean_b inside));
}

pub takes_both : {S : Type 0} (g : Ghosts S) (a b c : Transaction S) → TakesStep g a b
    → (HasCleanDisk (state g b.conn.now) → IsTrue (state g a.conn.now).in_transaction → IsTrue (state g b.conn.now).in_transaction)
    → TakesStep g b c → TakesStep g a c
takes_both g a b c one on two = record {
  same_reference = two.same_reference ∙ one.same_reference;
  states = then_step (state g a.conn.now) (state g b.conn.now) (state g c.conn.now) one.states on two.states;
}

-- ---- the tables by their parts

pub data Part : Type 0 where
  Desk : Part
  Messages : Part
  Names : Part
  Verdicts : Part
  Parked : Part

abbrev pub called : Part → List ℕ
called Desk = codes "desk"
called Messages = codes "messages"
called Names = codes "names"
called Verdicts = codes "verdicts"
called Parked = codes "parked"

abbrev table_of : Part → ℕ → Table
table_of Desk = desk_at
table_of Messages = messages_at
table_of Names = names_at
table_of Verdicts = verdicts_at
table_of Parked = parked_at

abbrev initial : Part → ℕ
initial Desk = 100
initial Messages = 109
initial Names = 110
initial Verdicts = 118
initial Parked = 112

initial_is : (p : Part) (tree : ℕ) → slice_index_or (table_of p tree).name 0 0 ≡ initial p
initial_is Desk tree = refl
initial_is Messages tree = refl
initial_is Names tree = refl
initial_is Verdicts tree = refl
initial_is Parked tree = refl

tree_is : (p : Part) (tree : ℕ) → (table_of p tree).tree ≡ tree
tree_is Desk tree = refl
tree_is Messages tree = refl
tree_is Names tree = refl
tree_is Verdicts tree = refl
tree_is Parked tree = refl

place : (s : Schema) → HasDesk s → (p : Part) → (at : ℕ) × Places s (called p) at (table_of p (tree_of s (called p)))
place s is Desk = (is.d, is.desk)
place s is Messages = (is.m, is.messages)
place s is Names = (is.n, is.names)
place s is Verdicts = (is.v, is.verdicts)
place s is Parked = (is.p, is.parked)

-- a change of one of the tables leaves each other one as it is
pub still : (old new : Database) (a b : Part) → HasDesk old.schema → initial a ≢ initial b
    → new.schema ≡ old.schema → KeepsBut (called a) old new → table_in new (called b) ≡ table_in old (called b)
still old new a b is differ schema others =
    let one = place old.schema is a in
    let two = place old.schema is b in
    kept (called a) (called b) old new one.0 two.0 _ _ one.1 (tree_is a _) two.1
    (tree_is b _) (λ e. differ (sym (initial_is a _) ∙ e ∙ initial_is b _)) schema others

-- ---- the tables of other names

all_member : (P : Table → Type 0) (ts : List Table) (t : Table) → Has ts t → AllByRecursion P ts → P t
all_member P [] t there all = absurd there
all_member P (u ∷ ts) t (inl same) all = subst P (sym same) all.0
all_member P (u ∷ ts) t (inr later) all = all_member P ts t later all.1

other_than : (s : Schema) (tree : ℕ) (p : Part) → IsForeign s tree → tree ≢ tree_of s (called p)
other_than s tree Desk foreign = foreign.desk
other_than s tree Messages foreign = foreign.messages
other_than s tree Names foreign = foreign.names
other_than s tree Verdicts foreign = foreign.verdicts
other_than s tree Parked foreign = foreign.parked

-- a change of one of a desk's tables spares those of other names
pub spares_but : (old new : Database) (p : Part) → new.schema ≡ old.schema → KeepsBut (called p) old new → Spares old new
spares_but old new p schema others = record {
  schema = schema;
  foreign = λ t there foreign. all_member (λ (u : Table). u.tree ≢ tree_of old.schema (called p) → new.trees u.tree ≡ old.trees u.tree)
      old.schema.tables t there others (other_than old.schema t.tree p foreign);
}

pub spares_then : (a b c : Database) → Spares a b → Spares b c → Spares a c
spares_then a b c one two = record {
  schema = two.schema ∙ one.schema;
  foreign = λ t there foreign. two.foreign t (subst (λ (s : Schema). Has s.tables t) (sym one.schema) there)
      (subst (λ (s : Schema). IsForeign s t.tree) (sym one.schema) foreign) ∙ one.foreign t there foreign;
}

module _ (old new : Database) (is : HasDesk old.schema) (Rows : RowSet → RowSet → Type 0) where
  pub turns_names : Alters (codes "names") Rows old new → Turns (Rowwise Rows) Stays Stays old new
  turns_names it =
      let same = λ (b : Part) (differ : 110 ≢ initial b). still old new Names b is differ it.schema it.others in
      record {
        sound = λ _. it.sound;
        schema = it.schema;
        tidy = it.tidy;
        names = it.rows;
        verdicts = same Verdicts (λ e. omega (arith, e));
        parked = same Parked (λ e. omega (arith, e));
        desk = same Desk (λ e. omega (arith, e));
        messages = same Messages (λ e. omega (arith, e));
        spares = spares_but old new Names it.schema it.others;
      }

  pub turns_verdicts : Alters (codes "verdicts") Rows old new → Turns Stays (Rowwise Rows) Stays old new
  turns_verdicts it =
      let same = λ (b : Part) (differ : 118 ≢ initial b). still old new Verdicts b is differ it.schema it.others in
      record {
        sound = λ _. it.sound;
        schema = it.schema;
        tidy = it.tidy;
        names = same Names (λ e. omega (arith, e));
        verdicts = it.rows;
        parked = same Parked (λ e. omega (arith, e));
        desk = same Desk (λ e. omega (arith, e));
        messages = same Messages (λ e. omega (arith, e));
        spares = spares_but old new Verdicts it.schema it.others;
      }

  pub turns_parked : Alters (codes "parked") Rows old new → Turns Stays Stays (Rowwise Rows) old new
  turns_parked it =
      let same = λ (b : Part) (differ : 112 ≢ initial b). still old new Parked b is differ it.schema it.others in
      record {
        sound = λ _. it.sound;
        schema = it.schema;
        tidy = it.tidy;
        names = same Names (λ e. omega (arith, e));
        verdicts = same Verdicts (λ e. omega (arith, e));
        parked = it.rows;
        desk = same Desk (λ e. omega (arith, e));
        messages = same Messages (λ e. omega (arith, e));
        spares = spares_but old new Parked it.schema it.others;
      }

module _ (old new : State) (Rows : RowSet → RowSet → Type 0) where
  pub turned_names : Wrote (codes "names") Rows old new → Turned (Rowwise Rows) Stays Stays old new
  turned_names it = record { mode = it.inside.mode; turns = λ tidy. turns_names old.now new.now tidy.desk Rows (it.alters tidy) }

  pub turned_verdicts : Wrote (codes "verdicts") Rows old new → Turned Stays (Rowwise Rows) Stays old new
  turned_verdicts it = record { mode = it.inside.mode; turns = λ tidy. turns_verdicts old.now new.now tidy.desk Rows (it.alters tidy) }

  pub turned_parked : Wrote (codes "parked") Rows old new → Turned Stays Stays (Rowwise Rows) old new
  turned_parked it = record { mode = it.inside.mode; turns = λ tidy. turns_parked old.now new.now tidy.desk Rows (it.alters tidy) }

-- ---- a verdict's row

pub counts_verdict : (v : VerdictFields) (asker person kind : List ℕ) (n at : ℕ) (old new : State)
    → asker ≡ v.of → person ≡ v.by → kind ≡ kind_text v.kind → n ≡ v.no → at ≡ v.at
    → Wrote (codes "verdicts") (Gains (verdict_values asker n person kind at)) old new → Turned Stays (Rowwise (Gains (verdict_row v))) Stays old new
counts_verdict v asker person kind n at old new a p k m t wrote =
    let same : verdict_values asker n person kind at ≡ verdict_row v = rw (a, p, k, m, t) refl in
    turned_verdicts old new (Gains (verdict_row v)) (subst (λ r. Wrote (codes "verdicts") (Gains r) old new) same wrote)

pub parks_verdict : (v : VerdictFields) (body asker : List ℕ) (n : ℕ) (old new : State) → body ≡ wire (Verdict v) → asker ≡ v.of → n ≡ v.no
    → Wrote (codes "parked") (Gains (parked_values body asker n)) old new → Turned Stays Stays (Rowwise (Gains (parked_row v))) old new
parks_verdict v body asker n old new b a m wrote =
    let same : parked_values body asker n ≡ parked_row v = rw (b, a, m) refl in
    turned_parked old new (Gains (parked_row v)) (subst (λ r. Wrote (codes "parked") (Gains r) old new) same wrote)

-- ---- a verdict settles

pub or_true_left : (a b : Bool) → a ≡ true → (a || b) ≡ true
or_true_left true b is = refl
or_true_left false b is = cc

pub or_true_right : (a b : Bool) → b ≡ true → (a || b) ≡ true
or_true_right true b is = refl
or_true_right false b is = is

pub itself : (q : List ℕ) → same_text q q ≡ true
itself q = ap is_eq (tied_itself nat_list_cmp_total q)

-- the texts with one more are those of the messages with one more
pub with_one : (texts : Texts) (m : Message) → IsMessage m → SameSet (With (Holds texts) m) (Holds (set.insert texts (wire m)))
with_one texts m is n = (
  λ there. elim there [
    | inl before ↦ (before.0, put n ∙ or_true_right (same_text (wire n) (wire m)) (set.contains texts (wire n)) before.1)
    | inr equal ↦ (
      subst IsMessage (sym equal) is,
      put n ∙ or_true_left (same_text (wire n) (wire m)) (set.contains texts (wire n)) (ap (λ x. same_text (wire x) (wire m)) equal ∙ itself (wire m)),
    )
  ],
  λ held. elim (or_cases (same_text (wire n) (wire m)) (set.contains texts (wire n)) (sym (put n) ∙ held.1)) as (λ _. Holds texts n ⊎ (n ≡ m)) [
    | inl same ↦ inr (one_message n m held.0 is (is_same (wire n) (wire m) same))
    | inr before ↦ inl (held.0, before)
  ],
)
  where
    put : (n : Message) → set.contains (set.insert texts (wire m)) (wire n) ≡ (same_text (wire n) (wire m) || set.contains texts (wire n))
    put n = set.contains-insert nat_list_cmp_total texts (wire m) (wire n)

abbrev pub rows_at : Database → List ℕ → RowSet
rows_at db name = IsRow (table_in db name)

module _ (v : VerdictFields) (is : IsVerdict v) (a b : Database) where
  -- its name has a request
  settles_counted : Tells (rows_at a (codes "names")) (name_meant v) true → Turns Stays (Rowwise (Gains (verdict_row v))) Stays a b → Settles (Verdict v) a b
  settles_counted told it = record {
    sound = it.sound;
    schema = it.schema;
    tidy = it.tidy;
    rows = rows;
    desk = it.desk;
    messages = it.messages;
    spares = it.spares;
  }
    where
      rows : (texts : Texts) → set.contains texts (wire (Verdict v)) ≡ false → HasRows texts a → HasRows (set.insert texts (wire (Verdict v))) b
      rows texts new has =
          let V = rows_at b (codes "verdicts") in
          let now = counted (Holds texts) v (rows_at a (codes "names")) (rows_at a (codes "verdicts")) (rows_at a (codes "parked")) has V told it.verdicts in
          let both = subst (λ n. AreRows (With (Holds texts) (Verdict v)) (IsRow n) V (rows_at a (codes "parked"))) (sym it.names) now in
          let all = subst (λ p. AreRows (With (Holds texts) (Verdict v)) (rows_at b (codes "names")) V (IsRow p)) (sym it.parked) both in
          rows_same (With (Holds texts) (Verdict v)) (Holds (set.insert texts (wire (Verdict v))))
          (with_one texts (Verdict v) is) (rows_at b (codes "names")) V (rows_at b (codes "parked")) all

  -- its name has none
  settles_parked : Tells (rows_at a (codes "names")) (name_meant v) false → Turns Stays Stays (Rowwise (Gains (parked_row v))) a b → Settles (Verdict v) a b
  settles_parked told it = record {
    sound = it.sound;
    schema = it.schema;
    tidy = it.tidy;
    rows = rows;
    desk = it.desk;
    messages = it.messages;
    spares = it.spares;
  }
    where
      rows : (texts : Texts) → set.contains texts (wire (Verdict v)) ≡ false → HasRows texts a → HasRows (set.insert texts (wire (Verdict v))) b
      rows texts new has =
          let P = rows_at b (codes "parked") in
          let now = parks (Holds texts) v (rows_at a (codes "names")) (rows_at a (codes "verdicts")) (rows_at a (codes "parked")) has P told it.parked in
          let both = subst (λ n. AreRows (With (Holds texts) (Verdict v)) (IsRow n) (rows_at a (codes "verdicts")) P) (sym it.names) now in
          let all = subst (λ r. AreRows (With (Holds texts) (Verdict v)) (rows_at b (codes "names")) (IsRow r) P) (sym it.verdicts) both in
          rows_same (With (Holds texts) (Verdict v)) (Holds (set.insert texts (wire (Verdict v))))
          (with_one texts (Verdict v) is) (rows_at b (codes "names")) (rows_at b (codes "verdicts")) P all

module _ (v : VerdictFields) (is : IsVerdict v) (told : Bool) (old mid new : State) (finds : Finds (name_meant v) told old mid) where
  tells_now : (tidy : IsTidy old.now) → Tells (rows_at mid.now (codes "names")) (name_meant v) told
  tells_now tidy = subst (λ (d : Database). Tells (rows_at d (codes "names")) (name_meant v) told) (sym (finds.same tidy)) (finds.tells tidy)

  tidy_now : IsTidy old.now → IsTidy mid.now
  tidy_now tidy = subst IsTidy (sym (finds.same tidy)) tidy

  pub verdict_counted : told ≡ true → Turned Stays (Rowwise (Gains (verdict_row v))) Stays mid new → Settled (Verdict v) old new
  verdict_counted is_told it = record {
    mode = it.mode;
    settles = λ tidy. subst (λ d. Settles (Verdict v) d new.now) (finds.same tidy) (settles_counted v is mid.now new.now
        (subst (Tells (rows_at mid.now (codes "names")) (name_meant v)) is_told (tells_now tidy)) (it.turns (tidy_now tidy)));
  }

  pub verdict_parked : told ≡ false → Turned Stays Stays (Rowwise (Gains (parked_row v))) mid new → Settled (Verdict v) old new
  verdict_parked is_told it = record {
    mode = it.mode;
    settles = λ tidy. subst (λ d. Settles (Verdict v) d new.now) (finds.same tidy) (settles_parked v is mid.now new.now
        (subst (Tells (rows_at mid.now (codes "names")) (name_meant v)) is_told (tells_now tidy)) (it.turns (tidy_now tidy)));
  }

-- ---- outcomes

pub on_ok : {T E : Type 0} (r : Result T E) (P Q : Type 0) → (P → Q) → OnOk r P → OnOk r Q
on_ok (Ok x) P Q on p = on p
on_ok (Err e) P Q on p = tt

pub meant_is : (v : VerdictFields) (asker : List ℕ) (n : ℕ) → asker ≡ v.of → n ≡ v.no → ◌≡◌ {A = RequestName} (record { by = asker; no = n }) (name_meant v)
meant_is v asker n a m = λ i. record { by = a i; no = m i }

pub name_is : (q : RequestFields) (asker : List ℕ) (n : ℕ) → asker ≡ q.by → n ≡ q.no → ◌≡◌ {A = RequestName} (record { by = asker; no = n }) (name_of q)
name_is q asker n a m = λ i. record { by = a i; no = m i }
