use Rattle.std.proofs.Common.{rules, ◌≡◌, ◌∷◌, [], arith, true, codes, sym, ◌∙◌}
use Rattle.sqlite_schema.specs.declared.schema.Kind.TheVariants as kind_of
use Rattle.store_tables.specs.DeskTables.{column_of}
use Rattle.store_schema.proofs.RecognizedLemmas.{four}
use Rattle.store_schema.proofs.columns.are_of_names.Goals as goal

pub returns-then-is_text : goal.returns-then-is_text
returns-then-is_text c =
    let a = c.asker-item.result in
    let b = c.no-item.result in
    let e = c.body-item.result in
    let d = c.disputed-item.result in
    let is = four c.args.columns.now a b e d (omega (arith, c.in-len4.len_at_least))
    (omega (arith, c.in-len4.len_below)) c.asker-item.is c.no-item.is c.body-item.is c.disputed-item.is in
    let both : (a ≡ column_of (codes "asker") kind_of.Text true) × (b ≡ column_of (codes "no") kind_of.Integer true) = search rules in
    let third : e ≡ column_of (codes "body") kind_of.Text true = search rules in (
      λ t. let fourth = c.is_number.ensures.0 t in is ∙ rw (both.0, both.1, third, fourth) Rattle.std.proofs.Common.refl,
      λ same. c.is_number.ensures.1 (let whole : a ∷ b ∷ e ∷ d ∷ [] ≡ _ = sym is ∙ same in cc),
    )
