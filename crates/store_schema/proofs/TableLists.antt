-- Tables in a list: found by a property, and members of it.
use Rattle.std.proofs.Common.{◌≡◌, inl, inr, ◌+◌, ◌++◌, ◌==◌, Bool, cond, find, None, ℕ, List, [], ◌∷◌, true, false, Some, refl, sym, ap, subst, ◌∙◌}
use Rattle.std.specs.List.{AllByRecursion, position_from}
use Rattle.std.proofs.lemmas.Bool.Decides.{eqb_tells}
use Rattle.sqlite.specs.Table.{Table}
use Rattle.sqlite_rules.specs.Lists.{Has}

module _ (q : Table → Bool) where
  -- if a member has the property, it is found, or another one before it
  pub found_some : (ts : List Table) (t : Table) → Has ts t → q t ≡ true → (u : Table) × (find q ts ≡ Some u)
  found_some [] t there is = absurd there
  found_some (x ∷ ts) t there is = go (q x) refl (λ later. found_some ts t later is)
    where
      go : (b : Bool) → q x ≡ b → (Has ts t → (u : Table) × (find q ts ≡ Some u)) → (u : Table) × (cond (q x) (Some x) (find q ts) ≡ Some u)
      go true e more = (x, ap (λ b. cond b (Some x) (find q ts)) e)
      go false e more = elim there [
        | inl same ↦ absurd (let no : true ≡ false = sym is ∙ ap q same ∙ e in cc)
        | inr later ↦ let it = more later in (it.0, ap (λ b. cond b (Some x) (find q ts)) e ∙ it.1)
      ]

  -- what is found does not have the property that no table has
  pub not_named : (p : Table → Bool) (i : ℕ) (ts : List Table) (u : Table) → position_from p i ts ≡ None → find q ts ≡ Some u → p u ≡ false
  not_named p i [] u none h = absurd cc
  not_named p i (x ∷ ts) u none h = go (p x) refl (q x) none h (λ n e. not_named p (i + 1) ts u n e)
    where
      go : (b : Bool) → p x ≡ b → (c : Bool) → cond b (Some i) (position_from p (i + 1) ts) ≡ None
          → cond c (Some x) (find q ts) ≡ Some u → (position_from p (i + 1) ts ≡ None → find q ts ≡ Some u → p u ≡ false) → p u ≡ false
      go true e c n f more = absurd cc
      go false e true n f more = let same : x ≡ u = cc in ap p (sym same) ∙ e
      go false e false n f more = more n f

pub all_of : (P : Table → Type 0) (ts : List Table) → ((t : Table) → Has ts t → P t) → AllByRecursion P ts
all_of P [] each = tt
all_of P (t ∷ ts) each = (each t (inl refl), all_of P ts (λ u there. each u (inr there)))

pub all_member : (P : Table → Type 0) (ts : List Table) (t : Table) → Has ts t → AllByRecursion P ts → P t
all_member P [] t there all = absurd there
all_member P (u ∷ ts) t (inl same) all = subst P (sym same) all.0
all_member P (u ∷ ts) t (inr later) all = all_member P ts t later all.1

pub has_before : (ts us : List Table) (t : Table) → Has ts t → Has (ts ++ us) t
has_before [] us t there = absurd there
has_before (u ∷ ts) us t (inl same) = inl same
has_before (u ∷ ts) us t (inr later) = inr (has_before ts us t later)

pub same_number : (m : ℕ) → (m == m) ≡ true
same_number m = elim (eqb_tells m m) [ inl is ↦ is.0 | inr apart ↦ absurd (apart.1 refl) ]
