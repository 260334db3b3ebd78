-- An older desk's tables, emptied and with `verdicts` added, are those of a desk of today.
use Rattle.std.proofs.Common.{◌≡◌, ◌≢◌, ◌++◌, [], ◌∷◌, length, codes, refl, sym, ap, subst, ◌∙◌, arith}
use Rattle.std.specs.List.{AllByRecursion}
use Rattle.sqlite.specs.Schema.{Schema}
use Rattle.sqlite.specs.Table.{Table}
use Rattle.sqlite.specs.Change.{next_tree}
use Rattle.sqlite.specs.Effect.{Database}
use Rattle.sqlite.specs.State.{State}
use Rattle.sqlite_rules.specs.Lists.{Has}
use Rattle.sqlite_rules.proofs.ListLemmas.{all_has}
use Rattle.store_tables.specs.Kept.{IsForeign, IsTidy, table_in}
use Rattle.store_tables.specs.Stored.{Finds, IsUnreferred, tree_of}
use Rattle.store_tables.proofs.StepLemmas.{keyed_none, neat_none}
use Rattle.store_schema.specs.declared.part.DeskPart.{DeskPart}
use Rattle.store_schema.specs.declared.part.DeskPart.TheVariants as part
use Rattle.store_schema.specs.Migratable.{IsMigratable}
use Rattle.store_schema.specs.Parts.{part_name, table_at}
use Rattle.store_schema.specs.Shapes.{FindsPart, IsOld, Lacks}
use Rattle.store_schema.specs.Founding.{Adds, AddsPart}
use Rattle.store_schema.specs.private.Making.{Grows, HasEmpty}
use Rattle.store_schema.proofs.GrowLemmas.{grows_more, same_itself}
use Rattle.store_schema.proofs.Grown.{finds_new, finds_still}
use Rattle.store_schema.proofs.MadeLemmas.{alone, append_none, bare, keeps_itself, none_in}
use Rattle.store_schema.proofs.ShapeLemmas.{desk_of, tree_in}
use Rattle.store_migration.specs.Migrated.{IsBeside}
use Rattle.store_migration.specs.private.Moving.{Emptied, EmptiesAll, Prepared, Prepares}
use Rattle.store_migration.proofs.PartLemmas.{apart, below_next, has_got, mark_of}

has_empty : (b : Database) (p : DeskPart) (it : FindsPart b.schema p) → table_in b (part_name p) ≡ []
    → IsUnreferred b.schema (tree_of b.schema (part_name p)) → HasEmpty b p
has_empty b p it none alone' = record {
  found = it;
  empty = ap b.trees (sym (tree_in b.schema p it)) ∙ none;
  alone = subst (IsUnreferred b.schema) (tree_in b.schema p it) alone';
}

module _ (b c : Database) (adds : Adds (table_at part.Verdicts 0) b c) where
  -- a table that is found is still found, in its tree
  found_still : (p : DeskPart) → FindsPart b.schema p → FindsPart c.schema p
  found_still p it = record {
    at = it.at;
    table = it.table;
    finds = subst (λ (s : Schema). Finds s (part_name p) it.at it.table) (sym adds.schema)
        (finds_still b.schema (table_at part.Verdicts 0) (part_name p) it.at it.table it.finds);
    is = it.is;
  }

  tree_still : (p : DeskPart) → FindsPart b.schema p → tree_of c.schema (part_name p) ≡ tree_of b.schema (part_name p)
  unfolding found_still
  tree_still p it = tree_in c.schema p (found_still p it) ∙ sym (tree_in b.schema p it)

  -- the new table is found after them
  fresh : Lacks b.schema part.Verdicts → tree_of c.schema (codes "verdicts") ≡ next_tree b.schema
  fresh lacks = tree_in c.schema part.Verdicts (record {
    at = length b.schema.tables;
    table = table_at part.Verdicts (next_tree b.schema);
    finds = subst (λ (s : Schema). Finds s (codes "verdicts") (length b.schema.tables) (table_at part.Verdicts (next_tree b.schema))) (sym adds.schema)
        (finds_new b.schema (table_at part.Verdicts 0) (codes "verdicts") lacks.table (same_itself part.Verdicts 0) adds.stored);
    is = refl;
  })

module _ (a b c : Database) (was : IsOld a.schema) (may_a : IsMigratable a.schema) (e : EmptiesAll a b) (adds : Adds (table_at part.Verdicts 0) b c) where
  old : IsOld b.schema
  old = subst IsOld (sym e.schema) was

  may : IsMigratable b.schema
  may = subst IsMigratable (sym e.schema) may_a

  begins : Grows (part.Desk ∷ part.Marks ∷ part.Parked ∷ part.Names ∷ []) (part.Verdicts ∷ []) b b
  begins = record {
    has = (
      has_empty b part.Desk old.common.desk e.empty.0 may.desk,
      (
        has_empty b part.Marks old.marks e.empty.1.0 may.marks,
        (has_empty b part.Parked old.common.parked e.empty.1.1.0 may.parked, (has_empty b part.Names old.common.names e.empty.1.1.1.0 may.names, tt)),
      ),
    );
    open' = (record { lacks = old.verdicts; unnamed = may.verdicts }, tt);
    counted = may.counted;
    kept = keeps_itself b.schema.tables b.trees;
    more = [];
    tables = append_none b.schema.tables;
  }

  g : Grows (part.Verdicts ∷ part.Desk ∷ part.Marks ∷ part.Parked ∷ part.Names ∷ []) [] b c
  g = grows_more part.Verdicts (part.Desk ∷ part.Marks ∷ part.Parked ∷ part.Names ∷ []) [] b b c tt begins adds

  v : HasEmpty c part.Verdicts
  v = g.has.0

  d : HasEmpty c part.Desk
  d = g.has.1.0

  k : HasEmpty c part.Marks
  k = g.has.1.1.0

  p : HasEmpty c part.Parked
  p = g.has.1.1.1.0

  n : HasEmpty c part.Names
  n = g.has.1.1.1.1.0

  tidy : IsTidy c
  tidy = record {
    desk = desk_of c.schema (record {
      desk = d.found;
      messages = found_still b c adds part.Messages old.common.messages;
      names = n.found;
      parked = p.found;
    }) v.found (alone c part.Desk d) (alone c part.Names n) (alone c part.Verdicts v) (alone c part.Parked p);
    names = neat_none 1 _ (none_in _ (bare c part.Names n));
    verdicts = keyed_none _ (none_in _ (bare c part.Verdicts v));
    parked = neat_none 2 _ (none_in _ (bare c part.Parked p));
  }

  -- ---- the tables that were there

  there_now : (t : Table) → Has a.schema.tables t → Has b.schema.tables t
  there_now t there = subst (λ (s : Schema). Has s.tables t) (sym e.schema) there

  rows_kept : (t : Table) → Has a.schema.tables t
      → AllByRecursion (λ q. t.tree ≢ tree_of a.schema (part_name q)) (part.Desk ∷ part.Marks ∷ part.Parked ∷ part.Names ∷ []) → c.trees t.tree ≡ a.trees t.tree
  rows_kept t there others =
      all_has (λ (u : Table). c.trees u.tree ≡ b.trees u.tree) b.schema.tables t adds.others (there_now t there) ∙ e.others t there others

  messages_kept : table_in c (codes "messages") ≡ table_in a (codes "messages")
  messages_kept =
      let m = was.common.messages in
      let tree = tree_in a.schema part.Messages m in
      let other = λ (q : DeskPart) (it : FindsPart a.schema q) (differ : mark_of part.Messages ≢ mark_of q).
      λ (same : m.table.tree ≡ tree_of a.schema (part_name q)). apart a.schema part.Messages q m it differ (tree ∙ same) in
      let now : tree_of c.schema (codes "messages") ≡ m.table.tree =
      tree_still b c adds part.Messages old.common.messages ∙ ap (λ s. tree_of s (codes "messages")) e.schema ∙ tree in
      ap c.trees now
      ∙ rows_kept m.table (has_got a.schema.tables m.at m.table m.finds.has) (
        other part.Desk was.common.desk (λ e. omega (arith, e)),
        (
          other part.Marks was.marks (λ e. omega (arith, e)),
          (other part.Parked was.common.parked (λ e. omega (arith, e)), (other part.Names was.common.names (λ e. omega (arith, e)), tt)),
        ),
      )
      ∙ ap a.trees (sym tree)

  foreign : (t : Table) → Has a.schema.tables t → IsBeside a.schema t.tree → IsForeign c.schema t.tree
  foreign t there beside = record {
    desk = λ same. beside.desk (same ∙ tree_before part.Desk old.common.desk);
    messages = λ same. beside.messages (same ∙ tree_before part.Messages old.common.messages);
    names = λ same. beside.names (same ∙ tree_before part.Names old.common.names);
    verdicts = λ same. let low = below_next b.schema t (there_now t there) in
        let next : t.tree ≡ next_tree b.schema = same ∙ fresh b c adds old.verdicts in
        omega (arith, low, next);
    parked = λ same. beside.parked (same ∙ tree_before part.Parked old.common.parked);
  }
    where
      tree_before : (q : DeskPart) → FindsPart b.schema q → tree_of c.schema (part_name q) ≡ tree_of a.schema (part_name q)
      tree_before q it = tree_still b c adds q it ∙ ap (λ s. tree_of s (part_name q)) e.schema

  pub prepares : Prepares a c
  prepares = record {
    tidy = tidy;
    desk = bare c part.Desk d;
    names = bare c part.Names n;
    verdicts = bare c part.Verdicts v;
    parked = bare c part.Parked p;
    marks = record { marks = k.found; empty = k.empty };
    messages = messages_kept;
    grown = (
      next_tree b.schema,
      ap (λ (s : Schema). s.tables) adds.schema ∙ ap (λ (s : Schema). s.tables ++ table_at part.Verdicts (next_tree b.schema) ∷ []) e.schema,
    );
    others = λ t there beside. rows_kept t there (beside.desk, (beside.marks, (beside.parked, (beside.names, tt))));
    foreign = foreign;
  }

pub prepared : (a b c : State) → Emptied a b → AddsPart part.Verdicts b c → Prepared a c
prepared a b c empties adds = record {
  was_open = empties.was_open;
  mode = adds.inside.mode;
  prepares = λ was may.
      let e = empties.empties was may in
      prepares a.now b.now c.now was may e (adds.adds (subst IsOld (sym e.schema) was).verdicts (subst IsMigratable (sym e.schema) may).counted);
}
