-- A database of a desk without messages, beside no other table.
use Rattle.std.proofs.Common.{◌≡◌, ◌==◌, inl, ℕ, pos, List, [], ◌∷◌, if◌then◌else◌, true, false, codes, refl, sym, ◌∙◌}
use Rattle.std.specs.Prelude.{IsUtf8}
use Rattle.std.specs.FinSet as set
use Rattle.std.specs.Ordering.{nat_cmp}
use Rattle.std.specs.Cmp.Lexicographic.{slice_cmp}
use Rattle.sqlite.specs.declared.types.Value.TheVariants.{Int, Null, Text}
use Rattle.sqlite.specs.Order.{Row}
use Rattle.sqlite.specs.Schema.{Schema}
use Rattle.sqlite.specs.Tree.{Trees}
use Rattle.sqlite.specs.Effect.{Database}
use Rattle.sqlite_schema.specs.Names.{same_name}
use Rattle.store_tables.specs.DeskTables.{desk_at, messages_at, names_at, parked_at, verdicts_at}
use Rattle.store_tables.specs.Stored.{HasDesk, IsUnused, content_of, has}
use Rattle.store_tables.proofs.RefillLemmas.{no_rows}
use Rattle.store_tables.proofs.StepLemmas.{keyed_none, neat_none}
use Rattle.store_opening.specs.Opened.{IsKept}

schema : Schema
schema = record {
  tables = desk_at 2 ∷ messages_at 3 ∷ names_at 5 ∷ verdicts_at 7 ∷ parked_at 9 ∷ [];
  indexes = [];
  views = [];
}

abbrev row : List ℕ → Row
row roster = Int (pos 1) ∷ Null ∷ Int (pos 2) ∷ Text roster ∷ []

abbrev trees : List ℕ → Trees
trees roster tree = if tree == 2 then row roster ∷ [] else []

abbrev made : List ℕ → Database
made roster = record { schema = schema; trees = trees roster }

has_desk : HasDesk schema
unfolding schema same_name
has_desk = record {
  d = 0;
  m = 1;
  n = 2;
  v = 3;
  p = 4;
  desk = record { named = refl; has = refl; stored = refl; by_tree = refl };
  messages = record { named = refl; has = refl; stored = refl; by_tree = refl };
  names = record { named = refl; has = refl; stored = refl; by_tree = refl };
  verdicts = record { named = refl; has = refl; stored = refl; by_tree = refl };
  parked = record { named = refl; has = refl; stored = refl; by_tree = refl };
  desk_alone = refl;
  names_alone = refl;
  verdicts_alone = refl;
  parked_alone = refl;
}

unmarked : IsUnused schema (codes "marks")
unfolding schema same_name
unmarked = record { table = refl; view = refl; index = refl }

module _ (roster : List ℕ) (utf8 : IsUtf8 roster) where
  kept : IsKept (made roster)
  unfolding schema same_name
  kept = record {
    desk = record {
      tidy = record {
        desk = has_desk;
        names = neat_none 1 _ (λ x there. there);
        verdicts = keyed_none _ (λ x there. there);
        parked = neat_none 2 _ (λ x there. there);
      };
      marked = (roster, refl, utf8);
      texts = refl;
      only = λ text there. let no : false ≡ true = sym (set.contains-empty (slice_cmp nat_cmp) text) ∙ there in absurd cc;
      rows = no_rows (made roster) (λ r there. there.1) (λ r there. there.1) (λ r there. there.1);
    };
    unmarked = inl unmarked;
  }

  roster_is : (content_of (made roster)).roster ≡ roster
  unfolding schema same_name
  roster_is = refl

  pub some_desk : (db : Database) × IsKept db × ((content_of db).roster ≡ roster)
  some_desk = (made roster, kept, roster_is)
