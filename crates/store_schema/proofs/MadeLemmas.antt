-- Five empty tables and the row of the roster are a desk with no message.
use Rattle.std.proofs.Common.{◌≡◌, ◌≢◌, ◌+◌, ◌++◌, None, ℕ, List, [], ◌∷◌, codes, true, false, unwrap_or, refl, sym, ap, subst, ◌∙◌}
use Rattle.std.specs.Prelude.{IsUtf8}
use Rattle.std.specs.List.{AllByRecursion, list_any}
use Rattle.std.specs.FinSet as set
use Rattle.std.specs.Ordering.{nat_cmp}
use Rattle.std.specs.Cmp.Lexicographic.{slice_cmp}
use Rattle.sqlite.specs.Order.{Row}
use Rattle.sqlite.specs.Schema.{Schema}
use Rattle.sqlite.specs.Table.{Table}
use Rattle.sqlite.specs.Effect.{Database, IsDatabase}
use Rattle.sqlite.specs.State.{State}
use Rattle.sqlite_rules.specs.Lists.{Has}
use Rattle.sqlite_schema.specs.Names.{same_name, table_named}
use Rattle.store_tables.specs.Kept.{IsTidy, table_in}
use Rattle.store_tables.specs.Stored.{IsUnreferred, content_of, has, is_in, is_stray, recorded_before, row_texts, tree_of}
use Rattle.store_tables.specs.Steps.{IsBare, Marked, Marks, Says}
use Rattle.store_tables.proofs.OneSchema.{again, unused_again}
use Rattle.store_tables.proofs.RefillLemmas.{no_rows}
use Rattle.store_tables.proofs.RosterLemmas.{same_messages, same_names, same_parked, same_verdicts}
use Rattle.store_tables.proofs.StepLemmas.{keyed_none, neat_none}
use Rattle.store_schema.specs.declared.part.DeskPart.{DeskPart}
use Rattle.store_schema.specs.declared.part.DeskPart.TheVariants as part
use Rattle.store_schema.specs.Parts.{part_name}
use Rattle.store_schema.specs.Beside.{IsOther, KeepsBeside, found_as}
use Rattle.store_schema.specs.Shapes.{FindsPart, Lacks}
use Rattle.store_schema.specs.Founding.{AddsPart, Founds, Makes, fresh}
use Rattle.store_schema.specs.private.Making.{Differs, Filled, Grows, GrownWhole, GrowsWhole, HasEmpty}
use Rattle.store_schema.specs.Ready.{IsReady}
use Rattle.sqlite.specs.Change.{KeepsRows}
use Rattle.store_schema.proofs.BesideLemmas.{new_tree, other_new, other_none, there_still}
use Rattle.store_schema.proofs.GrowLemmas.{grows_more}
use Rattle.store_schema.proofs.ShapeLemmas.{found_in, tree_in}
use Rattle.store_schema.proofs.TableLists.{all_member, all_of, has_before}

-- ---- the five tables

differ_desk : AllByRecursion (Differs part.Desk) (part.Messages ∷ part.Names ∷ part.Verdicts ∷ part.Parked ∷ part.Marks ∷ [])
unfolding same_name
differ_desk = (
  record { table = refl; index = λ t k. refl },
  (
    record { table = refl; index = λ t k. refl },
    (record { table = refl; index = λ t k. refl }, (record { table = refl; index = λ t k. refl }, (record { table = refl; index = λ t k. refl }, tt))),
  ),
)

differ_messages : AllByRecursion (Differs part.Messages) (part.Names ∷ part.Verdicts ∷ part.Parked ∷ part.Marks ∷ [])
unfolding same_name
differ_messages = (
  record { table = refl; index = λ t k. refl },
  (record { table = refl; index = λ t k. refl }, (record { table = refl; index = λ t k. refl }, (record { table = refl; index = λ t k. refl }, tt))),
)

differ_names : AllByRecursion (Differs part.Names) (part.Verdicts ∷ part.Parked ∷ part.Marks ∷ [])
unfolding same_name
differ_names =
    (record { table = refl; index = λ t k. refl }, (record { table = refl; index = λ t k. refl }, (record { table = refl; index = λ t k. refl }, tt)))

differ_verdicts : AllByRecursion (Differs part.Verdicts) (part.Parked ∷ part.Marks ∷ [])
unfolding same_name
differ_verdicts = (record { table = refl; index = λ t k. refl }, (record { table = refl; index = λ t k. refl }, tt))

differ_parked : AllByRecursion (Differs part.Parked) (part.Marks ∷ [])
unfolding same_name
differ_parked = (record { table = refl; index = λ t k. refl }, tt)

pub keeps_itself : (ts : List Table) (trees : Rattle.sqlite.specs.Tree.Trees) → Rattle.sqlite.specs.Change.KeepsRows ts trees trees
keeps_itself [] trees = tt
keeps_itself (t ∷ ts) trees = (refl, keeps_itself ts trees)

pub append_none : (ts : List Table) → ts ≡ Rattle.std.proofs.Common.◌++◌ ts []
append_none [] = refl
append_none (t ∷ ts) = ap (λ us. t ∷ us) (append_none ts)

begins : (a : Database) → IsReady a.schema → Grows [] (part.Desk ∷ part.Messages ∷ part.Names ∷ part.Verdicts ∷ part.Parked ∷ part.Marks ∷ []) a a
begins a ready = record {
  has = tt;
  open' = ready.vacant;
  counted = ready.counted;
  kept = keeps_itself a.schema.tables a.trees;
  more = [];
  tables = append_none a.schema.tables;
}

one : (p : DeskPart) (made rest : List DeskPart) (a : Database) (b c : State) → AllByRecursion (Differs p) rest
    → AddsPart p b c → Grows made (p ∷ rest) a b.now → Grows (p ∷ made) rest a c.now
one p made rest a b c differ adds g = grows_more p made rest a b.now c.now differ g (adds.adds g.open'.0.lacks g.counted)

pub grown : (a b c d e f : State) → AddsPart part.Desk a b → AddsPart part.Messages b c
    → AddsPart part.Names c d → AddsPart part.Verdicts d e → AddsPart part.Parked e f → GrownWhole a f
grown a b c d e f p q r s t = record {
  was_open = p.inside.was_open;
  mode = t.inside.mode;
  grows = λ ready.
      one part.Parked _ _ a.now e f differ_parked t (one part.Verdicts _ _ a.now d e differ_verdicts s (one part.Names _ _ a.now c d differ_names r
      (one part.Messages _ _ a.now b c differ_messages q (one part.Desk _ _ a.now a b differ_desk p (begins a.now ready)))));
}

-- ---- what they are

module _ (db : Database) (p : DeskPart) (it : HasEmpty db p) where
  pub bare : table_in db (part_name p) ≡ []
  bare = ap db.trees (tree_in db.schema p it.found) ∙ it.empty

  pub alone : IsUnreferred db.schema (tree_of db.schema (part_name p))
  alone = subst (IsUnreferred db.schema) (sym (tree_in db.schema p it.found)) it.alone

pub none_in : (rows : List Row) → rows ≡ [] → (x : Row) → ¬ Has rows x
none_in rows none x = subst (λ rs. ¬ Has rs x) (sym none) (λ there. there)

module _ (a b : Database) (g : GrowsWhole a b) where
  abbrev k : HasEmpty b part.Parked
  k = g.has.0

  abbrev v : HasEmpty b part.Verdicts
  v = g.has.1.0

  abbrev n : HasEmpty b part.Names
  n = g.has.1.1.0

  abbrev m : HasEmpty b part.Messages
  m = g.has.1.1.1.0

  abbrev d : HasEmpty b part.Desk
  d = g.has.1.1.1.1.0

  pub tidy : IsTidy b
  tidy = record {
    desk = record {
      d = d.found.at;
      m = m.found.at;
      n = n.found.at;
      v = v.found.at;
      p = k.found.at;
      desk = found_in b.schema part.Desk d.found d.found.is;
      messages = found_in b.schema part.Messages m.found m.found.is;
      names = found_in b.schema part.Names n.found n.found.is;
      verdicts = found_in b.schema part.Verdicts v.found v.found.is;
      parked = found_in b.schema part.Parked k.found k.found.is;
      desk_alone = alone b part.Desk d;
      names_alone = alone b part.Names n;
      verdicts_alone = alone b part.Verdicts v;
      parked_alone = alone b part.Parked k;
    };
    names = neat_none 1 _ (none_in _ (bare b part.Names n));
    verdicts = keyed_none _ (none_in _ (bare b part.Verdicts v));
    parked = neat_none 2 _ (none_in _ (bare b part.Parked k));
  }

  pub unrecorded : table_in b (codes "desk") ≡ []
  unrecorded = bare b part.Desk d

  module _ (roster : List ℕ) (utf8 : IsUtf8 roster) (c : Database) (put : Marks (Says roster) b c) where
    nothing : table_in c (codes "messages") ≡ []
    nothing = same_messages b c tidy put.schema put.others ∙ bare b part.Messages m

    names_none : table_in c (codes "names") ≡ []
    names_none = same_names b c tidy put.schema put.others ∙ bare b part.Names n

    verdicts_none : table_in c (codes "verdicts") ≡ []
    verdicts_none = same_verdicts b c tidy put.schema put.others ∙ bare b part.Verdicts v

    parked_none : table_in c (codes "parked") ≡ []
    parked_none = same_parked b c tidy put.schema put.others ∙ bare b part.Parked k

    content : content_of c ≡ fresh roster
    content = λ i. record { roster = unwrap_or (put.row i) (unwrap_or (recorded_before (table_in c (codes "desk"))) []); texts = row_texts (nothing i) }

    none_held : (text : List ℕ) → ¬ (has (content_of c) text ≡ true)
    none_held text there = let no : false ≡ true = sym (set.contains-empty (slice_cmp nat_cmp) text) ∙ sym (ap (λ x. has x text) content) ∙ there in cc

    pub makes : Makes roster c
    makes = record {
      sound = put.sound;
      desk = record {
        tidy = put.tidy;
        marked = (roster, put.row, utf8);
        texts = ap (list_any is_stray) nothing;
        only = λ text there. absurd (none_held text there);
        rows = subst (λ texts. Rattle.store_tables.specs.Kept.HasRows texts c) (sym (ap (λ (x : Rattle.store_tables.specs.Stored.Content). x.texts) content))
            (no_rows c (λ r there. none_in _ names_none (there.0 ∷ r) there.1)
            (λ r there. none_in _ verdicts_none (there.0 ∷ r) there.1) (λ r there. none_in _ parked_none (there.0 ∷ r) there.1));
      };
      marks = subst (λ (s : Schema). Lacks s part.Marks) (sym put.schema) g.open'.0.lacks;
      content = content;
    }

-- ---- the tables that were there

module _ (roster : List ℕ) (a b c : Database) (ready : IsReady a.schema) (g : GrowsWhole a b) (put : Marks (Says roster) b c) where
  abbrev desk_tree : ℕ
  desk_tree = tree_of b.schema (codes "desk")

  -- no table that was there has the tree of the new one
  apart_from : (t : Table) → Has a.schema.tables t → t.tree ≢ desk_tree
  apart_from t there same =
      let it = d a b g in
      new_tree a.schema b.schema g.more g.tables part.Desk t ready.vacant.0.lacks.table it.found there (sym (same ∙ tree_in b.schema part.Desk it.found))

  pub keeps_whole : KeepsRows a.schema.tables a.trees c.trees
  keeps_whole = all_of (λ (t : Table). c.trees t.tree ≡ a.trees t.tree) a.schema.tables (λ t there. all_member (λ (u : Table). u.tree ≢ desk_tree
      → c.trees u.tree ≡ b.trees u.tree) b.schema.tables t (subst (λ ts. Has ts t) (sym g.tables) (has_before a.schema.tables g.more t there)) put.others
      (apart_from t there) ∙ all_member (λ (u : Table). b.trees u.tree ≡ a.trees u.tree) a.schema.tables t there g.kept)

  -- ---- the tables of other names

  abbrev grown_tables : c.schema.tables ≡ a.schema.tables ++ g.more
  grown_tables = ap (λ (s : Schema). s.tables) put.schema ∙ g.tables

  came : (p : DeskPart) (t : Table) → table_named a.schema (part_name p) ≡ None → HasEmpty b p
      → Has a.schema.tables t → is_in (found_as c.schema (part_name p)) t.tree ≡ false
  came p t free it there =
      other_new a.schema c.schema g.more grown_tables p t free (subst (λ (s : Schema). FindsPart s p) (sym put.schema) it.found) there

  other_than : (t : Table) → Has a.schema.tables t → IsOther c.schema t.tree
  other_than t there part.Desk = came part.Desk t ready.vacant.0.lacks.table (d a b g) there
  other_than t there part.Messages = came part.Messages t ready.vacant.1.0.lacks.table (m a b g) there
  other_than t there part.Names = came part.Names t ready.vacant.1.1.0.lacks.table (n a b g) there
  other_than t there part.Verdicts = came part.Verdicts t ready.vacant.1.1.1.0.lacks.table (v a b g) there
  other_than t there part.Parked = came part.Parked t ready.vacant.1.1.1.1.0.lacks.table (k a b g) there
  other_than t there part.Marks = other_none c.schema part.Marks t.tree (subst (λ (s : Schema). Lacks s part.Marks) (sym put.schema) g.open'.0.lacks)

  pub keeps_beside : KeepsBeside a c
  keeps_beside it stands = record {
    there = there_still a.schema c.schema g.more grown_tables it.table stands.there;
    other = other_than it.table stands.there;
    rows = all_member (λ (t : Table). c.trees t.tree ≡ a.trees t.tree) a.schema.tables it.table stands.there keeps_whole ∙ stands.rows;
  }

pub filled : (roster : List ℕ) → IsUtf8 roster → (a b c : State) → GrownWhole a b → Marked IsBare (Says roster) b c → Filled roster a c
filled roster utf8 a b c grown put = record {
  was_open = grown.was_open;
  mode = put.inside.mode;
  founds = λ ready. let g = grown.grows ready in record {
    makes = makes a.now b.now g roster utf8 c.now (marks ready);
    kept = keeps_whole roster a.now b.now c.now ready g (marks ready);
  };
  beside = λ ready. keeps_beside roster a.now b.now c.now ready (grown.grows ready) (marks ready);
}
  where
    marks : (ready : IsReady a.now.schema) → Marks (Says roster) b.now c.now
    marks ready = let g = grown.grows ready in put.marks (tidy a.now b.now g) (unrecorded a.now b.now g)

-- ---- what was promised for one schema holds for each that the trees list

pub makes_again : (roster : List ℕ) (a b : Database) → IsDatabase b → b.trees ≡ a.trees → Makes roster a → Makes roster b
makes_again roster a b sound same makes =
    let it = again a b makes.sound sound same in
    let sound' = subst (λ (t : Rattle.sqlite.specs.Tree.Trees). Rattle.sqlite_catalog.specs.Listing.IsSound b.schema t) same sound in
    record {
      sound = sound;
      desk = it.desk makes.desk;
      marks = unused_again a.schema b.schema a.trees makes.sound sound' (codes "marks") makes.marks;
      content = it.content ∙ makes.content;
    }

pub founds_again : (roster : List ℕ) (old a b : Database) → IsDatabase b → b.trees ≡ a.trees → Founds roster old a → Founds roster old b
founds_again roster old a b sound same founds = record {
  makes = makes_again roster a b sound same founds.makes;
  kept = subst (λ (t : Rattle.sqlite.specs.Tree.Trees). KeepsRows old.schema.tables old.trees t) (sym same) founds.kept;
}
