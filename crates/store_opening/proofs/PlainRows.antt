-- The rows of a set of messages are texts and whole numbers alone.
use Rattle.std.proofs.Common.{◌≡◌, ◌≤◌, inl, inr, ℕ, pos, suc, true, List, [], ◌∷◌, length, refl, sym, ap, subst, ◌∙◌, arith}
use Rattle.sqlite.specs.declared.types.Value.{Value}
use Rattle.sqlite.specs.declared.types.Value.TheVariants.{Int, Text}
use Rattle.sqlite.specs.Order.{Row}
use Rattle.sqlite.specs.View.{is_int}
use Rattle.sqlite_rules.specs.Lists.{Has}
use Rattle.messages.specs.declared.message.Message.{Message}
use Rattle.store_tables.specs.Kept.{IsKeyed}
use Rattle.store_tables.specs.Rows.{AreRows, IsRow}
use Rattle.store_opening.specs.private.Rows.{ArePlain, HaveRowids, IsPlain}
use Rattle.store_opening.proofs.KeyedCompared.{int_of}

text : (t : List ℕ) → IsPlain (Text t)
text t = inl (t, refl)

whole : (n : Rattle.std.proofs.Common.ℤ) → IsPlain (Int n)
whole n = inr (n, refl)

module _ (rows : List Row) (keyed : IsKeyed rows) (wide : HaveRowids rows) (each : (values : List Value)
    → IsRow rows values → (length values ≤ 5) × ((v : Value) → Has values v → IsPlain v)) where
  pub plain_rows : ArePlain rows
  plain_rows r there =
      let w = wide r there in
      let it = each w.1 (w.0, subst (Has rows) w.2 there) in
      let id : is_int w.0 ≡ true = subst (λ (x : Row). is_int (Rattle.sqlite.specs.Order.column x 0) ≡ true) w.2 (keyed.ints r there) in
      (subst (λ (x : Row). length x ≤ 6) (sym w.2) (omega (arith, it.0)), λ v has. go w.0 w.1 id it.1 v (subst (λ (x : Row). Has x v) w.2 has))
    where
      go : (id : Value) (values : List Value) → is_int id ≡ true → ((v : Value) → Has values v → IsPlain v) → (v : Value) → Has (id ∷ values) v → IsPlain v
      go id values is all v (inl same) = let n = int_of id is in inr (n.0, same ∙ n.1)
      go id values is all v (inr later) = all v later

module _ (S : Message → Type 0) (N V P : List Row) (r : AreRows S (IsRow N) (IsRow V) (IsRow P)) where
  pub names_plain : (values : List Value) → IsRow N values → (length values ≤ 5) × ((v : Value) → Has values v → IsPlain v)
  names_plain values there = let it = r.names_each values there in subst (λ x. (length x ≤ 5) × ((v : Value) → Has x v → IsPlain v)) (sym it.4) (
    omega arith,
    λ v has. elim has [
      | inl e ↦ subst IsPlain (sym e) (text it.0.by)
      | inr more ↦ elim more [
        | inl e ↦ subst IsPlain (sym e) (whole (pos it.0.no))
        | inr more ↦ elim more [
          | inl e ↦ subst IsPlain (sym e) (text _)
          | inr more ↦ elim more [ inl e ↦ subst IsPlain (sym e) (whole _) | inr none ↦ absurd none ]
        ]
      ]
    ],
  )

  pub verdicts_plain : (values : List Value) → IsRow V values → (length values ≤ 5) × ((v : Value) → Has values v → IsPlain v)
  verdicts_plain values there = let it = r.verdicts_each values there in subst (λ x. (length x ≤ 5) × ((v : Value) → Has x v → IsPlain v)) (sym it.3) (
    omega arith,
    λ v has. elim has [
      | inl e ↦ subst IsPlain (sym e) (text it.0.of)
      | inr more ↦ elim more [
        | inl e ↦ subst IsPlain (sym e) (whole (pos it.0.no))
        | inr more ↦ elim more [
          | inl e ↦ subst IsPlain (sym e) (text it.0.by)
          | inr more ↦ elim more [
            | inl e ↦ subst IsPlain (sym e) (text _)
            | inr more ↦ elim more [ inl e ↦ subst IsPlain (sym e) (whole _) | inr none ↦ absurd none ]
          ]
        ]
      ]
    ],
  )

  pub parked_plain : (values : List Value) → IsRow P values → (length values ≤ 5) × ((v : Value) → Has values v → IsPlain v)
  parked_plain values there = let it = r.parked_each values there in subst (λ x. (length x ≤ 5) × ((v : Value) → Has x v → IsPlain v)) (sym it.3) (
    omega arith,
    λ v has. elim has [
      | inl e ↦ subst IsPlain (sym e) (text _)
      | inr more ↦ elim more [
        | inl e ↦ subst IsPlain (sym e) (text it.0.of)
        | inr more ↦ elim more [ inl e ↦ subst IsPlain (sym e) (whole (pos it.0.no)) | inr none ↦ absurd none ]
      ]
    ],
  )
