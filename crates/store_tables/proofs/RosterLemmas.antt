-- The roster's row, in place of the one before.
use Rattle.std.proofs.Common.{◌≡◌, ◌≢◌, ℕ, pos, List, [], ◌∷◌, ◌&&◌, cond, Bool, true, Option}
use Rattle.std.proofs.Common.{Some, None, Ok, codes, inl, inr, refl, sym, ap, subst, ◌∙◌, arith}
use Rattle.std.specs.List.{AllByRecursion}
use Rattle.sqlite.specs.declared.types.Value.{Value}
use Rattle.sqlite.specs.declared.types.Value.TheVariants.{Null, Int, Real, Text, Blob}
use Rattle.sqlite.specs.Order.{Row, column}
use Rattle.sqlite.specs.Source.TheVariants.{Values}
use Rattle.sqlite.specs.Command.TheVariants as command
use Rattle.sqlite.specs.Edit.{Edit, edit_of, edited}
use Rattle.sqlite.specs.Rowids.TheVariants.{Chosen}
use Rattle.sqlite.specs.Does.{Tally}
use Rattle.sqlite.specs.Rows.{Written}
use Rattle.sqlite.specs.Table.{Table}
use Rattle.sqlite.specs.Tree.{Trees, rowid}
use Rattle.sqlite.specs.View.{is_int}
use Rattle.sqlite.specs.Effect.{Database}
use Rattle.sqlite.specs.Listing.{understood}
use Rattle.sqlite.specs.State.{State, Executes}
use Rattle.sqlite.proofs.Callers.{one_step, runs_as, statement_of}
use Rattle.sqlite_rules.specs.Lists.{Has}
use Rattle.sqlite_schema.specs.declared.schema.Keys.TheVariants.{Enforced}
use Rattle.store_tables.specs.DeskTables.{desk_at}
use Rattle.store_tables.specs.Stored.{HasDesk, is_one, recorded, tree_of}
use Rattle.store_tables.specs.Kept.{IsKeyed, IsNeat, IsTidy, table_in}
use Rattle.store_tables.specs.Steps.{IsBare, KeepsBut, Marked, Marks, Says}
use Rattle.store_tables.specs.private.Turning.{Recorded}
use Rattle.store_tables.proofs.AddLemmas.{cast_null}
use Rattle.store_tables.proofs.Inserts.{roster_put, roster_terms, roster_text}
use Rattle.store_tables.proofs.Puts.{cast_int}
use Rattle.store_tables.proofs.Steps.{no_works, same_value, went}
use Rattle.store_tables.proofs.Takes.{clears}
use Rattle.store_tables.proofs.TurnLemmas.{Desk, Messages, Names, Verdicts, Parked, spares_but, spares_then, still}
use Rattle.store_tables.proofs.Where.{desk_clear, desk_clears, scanning}

-- ---- the one row is told by its rowid

marked_int : (v : Value) (b : Bool) (o : Option (List ℕ)) (text : List ℕ) → cond (is_one v && b) o None ≡ Some text → is_int v ≡ true
marked_int Null b o text h = absurd cc
marked_int (Int n) b o text h = refl
marked_int (Real x) b o text h = absurd cc
marked_int (Text t) b o text h = absurd cc
marked_int (Blob c) b o text h = absurd cc

pub keyed_marked : (rows : List Row) (text : List ℕ) → recorded rows ≡ Some text → IsKeyed rows
keyed_marked [] text h = absurd cc
keyed_marked (r ∷ []) text h = record {
  ints = λ x there. elim there [ inl same ↦ ap (λ y. is_int (rowid y)) same ∙ marked_int (column r 0) _ _ text h | inr none ↦ absurd none ];
  once = λ a b here there same. elim here [
    | inl x ↦ elim there [ inl y ↦ x ∙ sym y | inr none ↦ absurd none ]
    | inr none ↦ absurd none
  ];
}
keyed_marked (r ∷ s ∷ rows) text h = absurd cc

no_member : (rows : List Row) → ((x : Row) → ¬ Has rows x) → rows ≡ []
no_member [] none = refl
no_member (r ∷ rows) none = absurd (none r (inl refl))

-- ---- a change of the desk's row alone

module _ (old new : Database) (tidy : IsTidy old) (schema : new.schema ≡ old.schema) (others : KeepsBut (codes "desk") old new) where
  pub same_names : table_in new (codes "names") ≡ table_in old (codes "names")
  same_names = still old new Desk Names tidy.desk (λ e. omega (arith, e)) schema others

  pub same_verdicts : table_in new (codes "verdicts") ≡ table_in old (codes "verdicts")
  same_verdicts = still old new Desk Verdicts tidy.desk (λ e. omega (arith, e)) schema others

  pub same_parked : table_in new (codes "parked") ≡ table_in old (codes "parked")
  same_parked = still old new Desk Parked tidy.desk (λ e. omega (arith, e)) schema others

  pub same_messages : table_in new (codes "messages") ≡ table_in old (codes "messages")
  same_messages = still old new Desk Messages tidy.desk (λ e. omega (arith, e)) schema others

  tidy_still : IsTidy new
  tidy_still = record {
    desk = subst HasDesk (sym schema) tidy.desk;
    names = subst (IsNeat 1) (sym same_names) tidy.names;
    verdicts = subst IsKeyed (sym same_verdicts) tidy.verdicts;
    parked = subst (IsNeat 2) (sym same_parked) tidy.parked;
  }

pub desk_emptied : (old new : State) (count : ℕ) → IsTidy old.now → IsKeyed (table_in old.now (codes "desk"))
    → Executes desk_clear [] old new (Ok count) → Marks IsBare old.now new.now
desk_emptied old new count tidy keyed ran =
    let s = old.now.schema in
    let tree = tree_of s (codes "desk") in
    let means = desk_clears s tidy.desk.d tree tidy.desk.desk in
    let w =
    runs_as desk_clear [] old new s refl (command.Delete tidy.desk.d (record { lets = []; body = scanning tree })) means.command means.plain count ran in
    let it = clears (desk_at tree) s tidy.desk.d tidy.desk.desk.has tidy.desk.desk.stored tidy.desk.desk_alone old.step_limit
    (statement_of desk_clear (understood s desk_clear)) old.now.trees new.now w.tally w.changed in
    record {
      sound = w.sound;
      schema = it.1;
      row = ap (λ x. new.now.trees (tree_of x (codes "desk"))) it.1 ∙ no_member (new.now.trees tree) (it.0.none keyed);
      others = it.0.others;
      tidy = tidy_still old.now new.now tidy it.1 it.0.others;
    }

pub roster_written : (old new : State) (roster : List ℕ) (count : ℕ) → IsTidy old.now → table_in old.now (codes "desk") ≡ []
    → Executes roster_text (Text roster ∷ []) old new (Ok count) → Marks (Says roster) old.now new.now
roster_written old new roster count tidy none h =
    let params = Text roster ∷ [] in
    let s = old.now.schema in
    let db = old.now.trees in
    let at = tidy.desk.d in
    let tree = tree_of s (codes "desk") in
    let means = roster_put s at tree tidy.desk.desk in
    let w = runs_as roster_text params old new s refl (command.Insert at (Values roster_terms 4)) means.command means.plain count h in
    let does = rw tidy.desk.desk.has at w.changed in
    let done = went does in
    let last = same_value (went (went done.2).2).2 in
    let given = went done.1 in
    let written = went (went given.2).2 in
    let counted = went written.2 in
    let trees : new.now.trees ≡ written.0 =
    ap (λ (p : Tally × Database). p.1.trees) last ∙ ap (λ (it : Written). it.trees) (same_value counted.2) ∙ same_value counted.1 in
    let edit : Edit = edit_of db (desk_at tree) [] Chosen 0 given.0 in
    let step = one_step s Enforced db written.0 edit (no_works s Enforced 0 tree edit.news) written.1 in
    let row : Row = Int (pos 1) ∷ Null ∷ Int (pos 2) ∷ Text roster ∷ [] in
    let is : edited db edit ≡ row ∷ [] =
    ap (λ all. edited db (edit_of db (desk_at tree) [] Chosen 0 all)) given.1.1 ∙ rw (none, cast_int (pos 1), cast_int (pos 2), cast_null) refl in
    let schema = ap (λ (p : Tally × Database). p.1.schema) last in
    let others = subst (λ (next : Trees). AllByRecursion (λ (t : Table). t.tree ≢ tree → next t.tree ≡ db t.tree) s.tables) (sym trees) step.tables in
    record {
      sound = w.sound;
      schema = schema;
      row = ap (λ x. recorded (new.now.trees (tree_of x (codes "desk")))) schema ∙ ap (λ (t : Trees). recorded (t tree)) trees ∙ ap recorded (step.rows ∙ is);
      others = others;
      tidy = tidy_still old.now new.now tidy schema others;
    }

pub recorded_anew : (roster : List ℕ) (a b c : State) → Marked IsKeyed IsBare a b → Marked IsBare (Says roster) b c → Recorded roster a c
recorded_anew roster a b c emptied put = record {
  was_open = emptied.inside.was_open;
  mode = put.inside.mode;
  records = λ is.
      let one = emptied.marks is.tidy (keyed_marked (table_in a.now (codes "desk")) is.marked.0 is.marked.1) in
      let two = put.marks one.tidy one.row in
      record {
        sound = two.sound;
        tidy = two.tidy;
        row = two.row;
        names = same_names b.now c.now one.tidy two.schema two.others ∙ same_names a.now b.now is.tidy one.schema one.others;
        verdicts = same_verdicts b.now c.now one.tidy two.schema two.others ∙ same_verdicts a.now b.now is.tidy one.schema one.others;
        parked = same_parked b.now c.now one.tidy two.schema two.others ∙ same_parked a.now b.now is.tidy one.schema one.others;
        messages = same_messages b.now c.now one.tidy two.schema two.others ∙ same_messages a.now b.now is.tidy one.schema one.others;
        spares = spares_then a.now b.now c.now (spares_but a.now b.now Desk one.schema one.others) (spares_but b.now c.now Desk two.schema two.others);
      };
}
