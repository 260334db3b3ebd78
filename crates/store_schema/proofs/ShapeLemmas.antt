-- A desk's tables, as they are recognized, and as statements find them.
use Rattle.std.proofs.Common.{◌≡◌, codes, refl, sym, subst}
use Rattle.sqlite.specs.Schema.{Schema}
use Rattle.store_tables.specs.DeskTables.{desk_at, messages_at, names_at, verdicts_at, parked_at}
use Rattle.store_tables.specs.Stored.{Finds, HasDesk, IsUnreferred, tree_of}
use Rattle.store_schema.specs.declared.part.DeskPart.{DeskPart}
use Rattle.store_schema.specs.declared.part.DeskPart.TheVariants as part
use Rattle.store_schema.specs.Parts.{part_name, table_at}
use Rattle.store_schema.specs.Shapes.{FindsPart, HasCommon}

pub tree_in : (s : Schema) (p : DeskPart) (it : FindsPart s p) → tree_of s (part_name p) ≡ it.table.tree
tree_in s p it = rw (it.finds.named, it.finds.has) refl

-- the part's table, as a desk makes it
pub found_in : (s : Schema) (p : DeskPart) (it : FindsPart s p) → it.table ≡ table_at p it.table.tree
    → Finds s (part_name p) it.at (table_at p (tree_of s (part_name p)))
found_in s p it made = subst (λ n. Finds s (part_name p) it.at (table_at p n)) (sym (tree_in s p it)) (subst (Finds s (part_name p) it.at) made it.finds)

-- five tables to which no foreign key refers are a desk's
pub desk_of : (s : Schema) → HasCommon s → FindsPart s part.Verdicts → IsUnreferred s (tree_of s (codes "desk"))
    → IsUnreferred s (tree_of s (codes "names")) → IsUnreferred s (tree_of s (codes "verdicts")) → IsUnreferred s (tree_of s (codes "parked")) → HasDesk s
desk_of s has verdicts a b c d = record {
  d = has.desk.at;
  m = has.messages.at;
  n = has.names.at;
  v = verdicts.at;
  p = has.parked.at;
  desk = found_in s part.Desk has.desk has.desk.is;
  messages = found_in s part.Messages has.messages has.messages.is;
  names = found_in s part.Names has.names has.names.is;
  verdicts = found_in s part.Verdicts verdicts verdicts.is;
  parked = found_in s part.Parked has.parked has.parked.is;
  desk_alone = a;
  names_alone = b;
  verdicts_alone = c;
  parked_alone = d;
}

-- and a desk's are recognized
pub common_of : (s : Schema) → HasDesk s → HasCommon s × FindsPart s part.Verdicts
common_of s is = (
  record {
    desk = record { at = is.d; table = desk_at (tree_of s (codes "desk")); finds = is.desk; is = refl };
    messages = record { at = is.m; table = messages_at (tree_of s (codes "messages")); finds = is.messages; is = refl };
    names = record { at = is.n; table = names_at (tree_of s (codes "names")); finds = is.names; is = refl };
    parked = record { at = is.p; table = parked_at (tree_of s (codes "parked")); finds = is.parked; is = refl };
  },
  record { at = is.v; table = verdicts_at (tree_of s (codes "verdicts")); finds = is.verdicts; is = refl },
)
