-- What the test of a body against a text says.
use Rattle.std.proofs.Common.{◌≡◌, ℕ, List, [], ◌∷◌, Bool, true, false, ◌&&◌, ◌||◌, Some, refl, sym, ap, ◌∙◌, arith}
use Rattle.std.specs.List.{list_any, list_all}
use Rattle.std.specs.Ordering.{is_eq}
use Rattle.std.specs.Cmp.{eq_by_cmp_equiv}
use Rattle.std.specs.Cmp.Lexicographic.{nat_list_cmp_total}
use Rattle.sqlite.specs.declared.types.Value.{Value}
use Rattle.sqlite.specs.declared.types.Value.TheVariants.{Null, Int, Real, Text, Blob}
use Rattle.sqlite.specs.Order.{Row, column}
use Rattle.sqlite.specs.Ops.{binary, is_true, from_truth}
use Rattle.sqlite_sql.specs.declared.ops.BinaryOp.TheVariants.{Compare}
use Rattle.sqlite_sql.specs.declared.ops.CompareOp.TheVariants.{Eq}
use Rattle.sqlite.specs.Collation.TheVariants.{Binary}
use Rattle.sqlite.specs.Term.{Term, op2, col, holds}
use Rattle.sqlite_value.proofs.OrderLemmas.{value_cmp-Text, value_cmp-apart}
use Rattle.store_tables.proofs.TextSets.{same_text, has_text}

truth_is : (b : Bool) → is_true (from_truth (Some b)) ≡ b
truth_is true = refl
truth_is false = refl

pub or-false : (a : Bool) → (a || false) ≡ a
or-false true = refl
or-false false = refl

-- SQL's = finds the text alone
pub finds_text : (text : List ℕ) (v : Value)
    → is_true (binary (Compare Eq Binary) v (Text text)) ≡ list_any (same_text text) (Rattle.store_tables.specs.Stored.text_in v)
unfolding binary
finds_text text Null = refl
finds_text text (Int n) = ap (λ o. is_true (from_truth (Some (is_eq o)))) (value_cmp-apart (Int n) (Text text) (λ e. omega (arith, e)))
finds_text text (Real x) = ap (λ o. is_true (from_truth (Some (is_eq o)))) (value_cmp-apart (Real x) (Text text) (λ e. omega (arith, e)))
finds_text text (Text s) =
    truth_is _ ∙ ap is_eq (value_cmp-Text s text) ∙ (eq_by_cmp_equiv nat_list_cmp_total).symm s text ∙ sym (or-false (same_text text s))
finds_text text (Blob b) = ap (λ o. is_true (from_truth (Some (is_eq o)))) (value_cmp-apart (Blob b) (Text text) (λ e. omega (arith, e)))

and-true : (a : Bool) → (a && true) ≡ a
and-true true = refl
and-true false = refl

abbrev pub missing_test : List Term
missing_test = op2 (Compare Eq Binary) (col 1 1) (col 0 0) ∷ []

module _ (text : List ℕ) where
  abbrev params : Row
  params = Text text ∷ []

  pub hit_is : (r : Row) → list_all (holds (params ∷ r ∷ [])) missing_test ≡ has_text text r
  hit_is r = ap (λ b. b && true) (finds_text text (column r 1)) ∙ and-true _
