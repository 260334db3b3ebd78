-- The set of texts after the INSERT.
use Rattle.std.proofs.Common.{zero, suc, slice_get, ◌≡◌, ℕ, ℤ, List, [], ◌∷◌, Bool, true, false, cond, ◌||◌, Some, refl, sym, ap, subst, ◌∙◌}
use Rattle.std.specs.List.{list_any}
use Rattle.std.specs.Ordering.{nat_cmp}
use Rattle.std.specs.Cmp.{Equal-is}
use Rattle.std.specs.Cmp.Lexicographic.{slice_cmp, nat_list_cmp_total}
use Rattle.std.specs.FinSet as set
use Rattle.std.specs.FinSet.{nat_cmp-IsAntisymmetric, slice_cmp-IsAntisymmetric}
use Rattle.sqlite.specs.declared.types.Value.TheVariants.{Null, Int, Text}
use Rattle.sqlite.specs.Order.{Row}
use Rattle.sqlite.specs.Edit.{put_all, are_fresh}
use Rattle.std.specs.List.{AllByRecursion}
use Rattle.store_tables.specs.Stored.{Texts, bodies, row_texts, is_stray}
use Rattle.store_tables.proofs.TextSets.{same_text, has_text, contains_bodies, any_put}
use Rattle.store_tables.proofs.LookupLemmas.{or-false}
use Rattle.sqlite.specs.declared.types.Value.{Value}
use Rattle.sqlite.specs.Cast.{cast}
use Rattle.sqlite.specs.Ops.{unary}
use Rattle.sqlite.specs.Kind.TheVariants.{Integer}

pub same_sets : (s t : Texts) → ((q : List ℕ) → set.contains s q ≡ set.contains t q) → s ≡ t
same_sets = set.same_set nat_list_cmp_total (slice_cmp-IsAntisymmetric nat_cmp-IsAntisymmetric)

-- the rows have one more text
one_more : (rows news : List Row) (text : List ℕ) → ((q : List ℕ) → list_any (has_text q) news ≡ (same_text q text || list_any (has_text q) rows))
    → set.from_list {R = slice_cmp nat_cmp} (bodies news) ≡ set.insert (set.from_list (bodies rows)) text
one_more rows news text each = same_sets _ _ (λ q. contains_bodies q news ∙ each q ∙ ap (λ b. same_text q text || b) (sym (contains_bodies q rows))
    ∙ sym (set.contains-insert nat_list_cmp_total (set.from_list (bodies rows)) text q))

pub is_same : (q text : List ℕ) → same_text q text ≡ true → q ≡ text
is_same q text h = slice_cmp-IsAntisymmetric nat_cmp-IsAntisymmetric q text ((Equal-is (slice_cmp nat_cmp q text)).0 h)

pub either : (b : Bool) (x : Value) → cond b x x ≡ x
either true x = refl
either false x = refl

pub cast_null : cast Integer Null ≡ Null
unfolding unary
cast_null = either _ Null

pub all_at : {K : Type 0} (P : K → Type 0) (xs : List K) (i : ℕ) (x : K) → slice_get xs i ≡ Some x → AllByRecursion P xs → P x
all_at P [] i x e h = absurd cc
all_at P (y ∷ xs) zero x e h = let same : y ≡ x = cc in subst P same h.0
all_at P (y ∷ xs) (suc i) x e h = all_at P xs i x e h.1

-- a text that was inserted with a fresh rowid is one more, and the bodies are texts as before
module _ (n : ℤ) (text : List ℕ) (old new : List Row)
    (fresh : are_fresh old ((Int n ∷ Text text ∷ []) ∷ []) ≡ true) (is : new ≡ put_all old ((Int n ∷ Text text ∷ []) ∷ [])) where
  abbrev row : Row
  row = Int n ∷ Text text ∷ []

  pub text_more : row_texts new ≡ set.insert (row_texts old) text
  text_more = one_more old new text
      (λ q. ap (list_any (has_text q)) is ∙ any_put (has_text q) old row fresh ∙ ap (λ b. b || list_any (has_text q) old) (or-false (same_text q text)))

  pub typed_still : list_any is_stray old ≡ false → list_any is_stray new ≡ false
  typed_still was = ap (list_any is_stray) is ∙ any_put is_stray old row fresh ∙ was
