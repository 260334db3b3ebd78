-- The set of bodies, by the rows.
use Rattle.std.proofs.Common.{◌≡◌, inl, inr, ℕ, List, [], ◌∷◌, Bool, true, false, ◌||◌, refl, sym, ap, subst, ◌∙◌}
use Rattle.std.proofs.lemmas.Bool.{or_left, or_right, or_cases}
use Rattle.std.specs.List.{list_any}
use Rattle.std.proofs.lemmas.List.Folds.{list_any-append}
use Rattle.std.specs.Ordering.{nat_cmp, eq_by_cmp}
use Rattle.std.specs.Cmp.Lexicographic.{slice_cmp, nat_list_cmp_total}
use Rattle.std.specs.FinSet as set
use Rattle.sqlite.specs.Order.{Row, column}
use Rattle.sqlite.specs.Edit.{put_all, are_fresh}
use Rattle.sqlite_rules.proofs.ListLemmas.{some_has, some_from}
use Rattle.sqlite_rules.proofs.TableLemmas.{put_all_has, put_all_keeps, put_all_adds}
use Rattle.store_tables.specs.Stored.{text_in, bodies}

abbrev pub same_text : List ℕ → List ℕ → Bool
same_text = eq_by_cmp (slice_cmp nat_cmp)

-- the row's body is the text
abbrev pub has_text : List ℕ → Row → Bool
has_text t r = list_any (same_text t) (text_in (column r 1))

bodies_any : (t : List ℕ) (rows : List Row) → list_any (same_text t) (bodies rows) ≡ list_any (has_text t) rows
bodies_any t [] = refl
bodies_any t (r ∷ rs) = list_any-append (same_text t) (text_in (column r 1)) (bodies rs) ∙ ap (λ b. has_text t r || b) (bodies_any t rs)

pub contains_bodies : (t : List ℕ) (rows : List Row) → set.contains (set.from_list {R = slice_cmp nat_cmp} (bodies rows)) t ≡ list_any (has_text t) rows
contains_bodies t rows = set.contains-from_list nat_list_cmp_total (bodies rows) t ∙ bodies_any t rows

-- two tests that imply each other
pub same_test : (a b : Bool) → (a ≡ true → b ≡ true) → (b ≡ true → a ≡ true) → a ≡ b
same_test true b f g = sym (f refl)
same_test false true f g = g refl
same_test false false f g = refl

pub any_put : (p : Row → Bool) (rows : List Row) (new : Row) → are_fresh rows (new ∷ []) ≡ true
    → list_any p (put_all rows (new ∷ [])) ≡ (p new || list_any p rows)
any_put p rows new fresh = same_test _ _ there back
  where
    there : list_any p (put_all rows (new ∷ [])) ≡ true → (p new || list_any p rows) ≡ true
    there h =
        let it = some_has p (put_all rows (new ∷ [])) h in
        elim (put_all_has (new ∷ []) rows it.0 it.1) [
          | inl (inl is) ↦ or_left _ _ (subst (λ r. p r ≡ true) is it.2)
          | inl (inr none) ↦ absurd none
          | inr old ↦ or_right _ _ (some_from p rows it.0 old it.2)
        ]

    back : (p new || list_any p rows) ≡ true → list_any p (put_all rows (new ∷ [])) ≡ true
    back h = elim (or_cases _ _ h) [
      | inl is ↦ some_from p (put_all rows (new ∷ [])) new (put_all_adds (new ∷ []) rows new fresh (inl refl)) is
      | inr old ↦ let it = some_has p rows old in some_from p (put_all rows (new ∷ [])) it.0 (put_all_keeps (new ∷ []) rows it.0 fresh it.1) it.2
    ]
