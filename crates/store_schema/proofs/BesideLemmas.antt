-- The tables of other names stay beside a desk's that changes, that grows, or that is made.
use Rattle.std.proofs.Common.{◌≡◌, inl, inr, ◌≢◌, ◌==◌, ◌++◌, true, false, find, slice_get, ℕ, List, Some, None, option_and_then, sym, ap, subst, ◌∙◌}
use Rattle.std.specs.List.{position_from}
use Rattle.std.proofs.lemmas.Bool.Decides.{eqb_tells}
use Rattle.sqlite.specs.Schema.{Schema}
use Rattle.sqlite.specs.Table.{Table}
use Rattle.sqlite.specs.Effect.{Database}
use Rattle.sqlite_rules.specs.Lists.{Has}
use Rattle.sqlite_schema.specs.Names.{same_name, table_named}
use Rattle.store_tables.specs.Kept.{IsForeign, Spares}
use Rattle.store_tables.specs.Stored.{Finds, HasDesk, is_in, tree_of}
use Rattle.store_schema.specs.Beside.{IsOther, KeepsBeside, StandsBeside, found_as}
use Rattle.store_schema.specs.declared.part.DeskPart.{DeskPart}
use Rattle.store_schema.specs.declared.part.DeskPart.TheVariants as part
use Rattle.store_schema.specs.Parts.{part_name}
use Rattle.store_schema.specs.Shapes.{FindsPart, Lacks}
use Rattle.store_schema.proofs.Grown.{find_kept, get_kept, position_kept}
use Rattle.store_schema.proofs.RecognizedLemmas.{named_so}
use Rattle.store_schema.proofs.ShapeLemmas.{common_of, tree_in}
use Rattle.store_schema.proofs.TableLists.{found_some, has_before, not_named, same_number}

-- ---- told apart by their trees

other_number : (a b : ℕ) → a ≢ b → (a == b) ≡ false
other_number a b apart = elim (eqb_tells a b) [ inl is ↦ absurd (apart is.1) | inr it ↦ it.0 ]

-- a table that is found has another tree
not_in : (s : Schema) (name : List ℕ) (at : ℕ) (t : Table) (tree : ℕ) → Finds s name at t → is_in (found_as s name) tree ≡ false → tree ≢ t.tree
not_in s name at t tree it other same =
    let found : found_as s name ≡ Some t = ap (option_and_then (slice_get s.tables)) it.named ∙ it.has in
    let is : (t.tree == tree) ≡ false = sym (ap (λ o. is_in o tree) found) ∙ other in
    let itself : (t.tree == tree) ≡ true = ap (λ n. t.tree == n) same ∙ same_number t.tree in
    absurd (let no : true ≡ false = sym itself ∙ is in cc)

pub other_apart : (s : Schema) (p : DeskPart) (tree : ℕ) → FindsPart s p → is_in (found_as s (part_name p)) tree ≡ false → tree ≢ tree_of s (part_name p)
other_apart s p tree it other same = not_in s (part_name p) it.at it.table tree it.finds other (same ∙ tree_in s p it)

other_is_foreign : (s : Schema) → HasDesk s → (tree : ℕ) → IsOther s tree → IsForeign s tree
other_is_foreign s is tree other =
    let has = common_of s is in
    record {
      desk = other_apart s part.Desk tree has.0.desk (other part.Desk);
      messages = other_apart s part.Messages tree has.0.messages (other part.Messages);
      names = other_apart s part.Names tree has.0.names (other part.Names);
      verdicts = other_apart s part.Verdicts tree has.1 (other part.Verdicts);
      parked = other_apart s part.Parked tree has.0.parked (other part.Parked);
    }

-- ---- a desk that changes

pub same_beside : (old new : Database) → new ≡ old → KeepsBeside old new
same_beside old new same it stands = subst (λ (d : Database). StandsBeside d it) (sym same) stands

pub spared_beside : (old new : Database) → HasDesk old.schema → Spares old new → KeepsBeside old new
spared_beside old new is spares it stands = record {
  there = subst (λ (s : Schema). Has s.tables it.table) (sym spares.schema) stands.there;
  other = subst (λ (s : Schema). IsOther s it.table.tree) (sym spares.schema) stands.other;
  rows = spares.foreign it.table stands.there (other_is_foreign old.schema is it.table.tree stands.other) ∙ stands.rows;
}

-- ---- tables that came to those that were there

module _ (s u : Schema) (more : List Table) (tables : u.tables ≡ s.tables ++ more) where
  pub there_still : (t : Table) → Has s.tables t → Has u.tables t
  there_still t there = subst (λ ts. Has ts t) (sym tables) (has_before s.tables more t there)

  -- a part that was there is found as it was
  pub found_still : (p : DeskPart) → FindsPart s p → found_as u (part_name p) ≡ found_as s (part_name p)
  found_still p it =
      let t = it.table in
      let was : found_as s (part_name p) ≡ Some t = ap (option_and_then (slice_get s.tables)) it.finds.named ∙ it.finds.has in
      let named : table_named u (part_name p) ≡ Some it.at =
      ap (position_from (λ (v : Table). same_name v.name (part_name p)) 0) tables
      ∙ position_kept (λ (v : Table). same_name v.name (part_name p)) 0 it.at s.tables more it.finds.named in
      let has : slice_get u.tables it.at ≡ Some t = ap (λ ts. slice_get ts it.at) tables ∙ get_kept t s.tables more it.at it.finds.has in
      ap (option_and_then (slice_get u.tables)) named ∙ has ∙ sym was

  pub other_still : (p : DeskPart) (tree : ℕ) → FindsPart s p → is_in (found_as s (part_name p)) tree ≡ false → is_in (found_as u (part_name p)) tree ≡ false
  other_still p tree it other = ap (λ o. is_in o tree) (found_still p it) ∙ other

  -- a part that came has a tree that no table had
  pub new_tree : (p : DeskPart) (t : Table) → table_named s (part_name p) ≡ None → (it : FindsPart u p) → Has s.tables t → it.table.tree ≢ t.tree
  new_tree p t free it there same =
      let tree = it.table.tree in
      let got = found_some (λ (v : Table). v.tree == tree) s.tables t there (ap (λ n. n == tree) (sym same) ∙ same_number tree) in
      let longer : find (λ (v : Table). v.tree == tree) u.tables ≡ Some got.0 =
      ap (find (λ (v : Table). v.tree == tree)) tables ∙ find_kept (λ (v : Table). v.tree == tree) got.0 s.tables more got.1 in
      let two : Some got.0 ≡ Some it.table = sym longer ∙ it.finds.by_tree in
      let is : got.0 ≡ it.table = cc in
      let named = not_named (λ (v : Table). v.tree == tree) (λ (v : Table). same_name v.name (part_name p)) 0 s.tables got.0 free got.1 in
      absurd (let no : true ≡ false = sym (named_so p it.table it.is) ∙ ap (λ (v : Table). same_name v.name (part_name p)) (sym is) ∙ named in cc)

  pub other_new : (p : DeskPart) (t : Table) → table_named s (part_name p) ≡ None → FindsPart u p → Has s.tables t
      → is_in (found_as u (part_name p)) t.tree ≡ false
  other_new p t free it there =
      let found : found_as u (part_name p) ≡ Some it.table = ap (option_and_then (slice_get u.tables)) it.finds.named ∙ it.finds.has in
      ap (λ o. is_in o t.tree) found ∙ other_number it.table.tree t.tree (new_tree p t free it there)

-- no table has the name
pub other_none : (s : Schema) (p : DeskPart) (tree : ℕ) → Lacks s p → is_in (found_as s (part_name p)) tree ≡ false
other_none s p tree lacks = ap (λ o. is_in (option_and_then (slice_get s.tables) o) tree) lacks.table
