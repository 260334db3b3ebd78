-- Two databases of the same trees keep the same of a desk.
use Rattle.std.proofs.Common.{◌≡◌, ◌∙◌, ℕ, List, codes, ap, sym}
use Rattle.std.specs.List.{list_any}
use Rattle.sqlite.specs.Effect.{Database, IsDatabase}
use Rattle.sqlite.specs.Tree.{Trees}
use Rattle.store_tables.specs.Kept.{table_in}
use Rattle.store_tables.specs.Stored.{Content, IsListedAs, has, is_stray, tree_of}
use Rattle.store_tables.proofs.OneSchema as tables
use Rattle.store_schema.proofs.ListedLemmas.{old_as, tree_as, vacant_as}
use Rattle.store_schema.proofs.MarksLemmas.{unmarked_again}
use Rattle.store_opening.specs.Opened.{HasContents, recorded_as}
use Rattle.desk_store.specs.private.Survival.{IsAgain}

module _ (a b : Database) (first : IsDatabase a) (second : IsDatabase b) (same : b.trees ≡ a.trees) where
  abbrev listed : IsListedAs a.schema b.schema
  listed = tables.listed_again a b first second same

  table_same : (name : List ℕ) → table_in b name ≡ table_in a name
  table_same name = ap b.trees (tree_as a.schema b.schema listed name) ∙ ap (λ (db : Trees). db (tree_of a.schema name)) same

  contents_again : (version : ℕ) (roster : List ℕ) → HasContents version a roster → HasContents version b roster
  contents_again version roster has' = record {
    marked = ap (recorded_as version) (table_same (codes "desk")) ∙ has'.marked;
    utf8 = has'.utf8;
    texts = ap (list_any is_stray) (table_same (codes "messages")) ∙ has'.texts;
    only = λ text there. has'.only text (ap (λ (c : Content). has c text) (sym (tables.again a b first second same).content) ∙ there);
  }

  pub again : IsAgain a b
  again =
      let it = tables.again a b first second same in
      record {
        empty = vacant_as a.schema b.schema listed;
        desk = λ is. record { desk = it.desk is.desk; unmarked = unmarked_again a b listed same is.unmarked };
        old = λ is. record { tables = old_as a.schema b.schema listed is.tables; contents = (is.contents.0, contents_again 1 is.contents.0 is.contents.1) };
        content = it.content;
      }
