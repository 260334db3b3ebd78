use Rattle.std.proofs.Common.{rules, ◌≡◌, ◌^◌, nat_le, false, Some, sym, ◌∙◌}
use Rattle.sqlite_schema.specs.Names.{table_named}
use Rattle.store_schema.specs.Parts.{IsPart, part_name}
use Rattle.store_schema.proofs.RecognizedLemmas.{first_part, found_first, no_place, one_place}
use Rattle.store_schema.proofs.recognize.has.Goals as goal

pub returns-in-Some-first_at-clause-only : goal.returns-in-Some-first_at-clause-only
returns-in-Some-first_at-clause-only c finds =
    let part = c.args.part in
    let named : table_named c.args.schema.now (part_name part) ≡ Some c.in-Some.at = search rules in
    let is = first_part part c.args.schema.now c.as_slice-tables.result.now c.in-Some.at c.get.result c.in-Some-get.table
    c.as_slice-tables.ensures finds named c.get.ensures.lookup c.in-Some-get.is in
    one_place c.in-Some-first_at.first c.in-Some.at (sym c.in-Some-first_at.is ∙ c.first_at.ensures ∙ is.2)

pub returns-in-None-clause-only : goal.returns-in-None-clause-only
returns-in-None-clause-only c finds =
    let part = c.args.part in
    let named : table_named c.args.schema.now (part_name part) ≡ Some c.in-Some.at = search rules in
    let is = first_part part c.args.schema.now c.as_slice-tables.result.now c.in-Some.at c.get.result c.in-Some-get.table
    c.as_slice-tables.ensures finds named c.get.ensures.lookup c.in-Some-get.is in
    no_place c.first_at.result c.in-Some.at c.in-None.is (c.first_at.ensures ∙ is.2)

pub returns-in-Some-first_at-clause-found : goal.returns-in-Some-first_at-clause-found
returns-in-Some-first_at-clause-found c test =
    let part = c.args.part in
    let table = c.in-Some-get.table in
    let named : table_named c.args.schema.now (part_name part) ≡ Some c.in-Some.at = search rules in
    let is : IsPart part table.now = search rules in
    let stored : nat_le (2 ^ 31) table.now.tree ≡ false = search rules in
    found_first part c.args.schema.now c.as_slice-tables.result.now c.in-Some.at c.get.result table c.in-Some-first_at.first
    c.as_slice-tables.ensures named c.get.ensures.lookup c.in-Some-get.is is stored (sym c.first_at.ensures ∙ c.in-Some-first_at.is) test
