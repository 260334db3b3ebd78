-- The entries of a policy, split at the place of a definition.
use Rattle.std.proofs.Common.{◌≡◌, ℕ, zero, suc, List, [], ◌∷◌, ◌++◌, length, Some, refl, ap, arith}
use Rattle.std.specs.Prelude.{unwrap_or}
use Rattle.std.proofs.lemmas.Option.{none-some}
use Rattle.sudo_policy.specs.declared.entry.Signed.{Signed}
use Rattle.sudo_policy.specs.declared.entry.Entry.{Entry}
use Rattle.sudo_policy.specs.declared.tree.Definition.{Definition}
use Rattle.sudo_policy.specs.Alias.{DefinedAt}

-- the entry at the place defines the alias, and these stand before it and after it
pub record IsSplit {X : Type 0} (def : Entry → List (Definition X)) (es : List Entry) (place : ℕ) (name : List ℕ) (list : List (Signed X)) : Type 0 where
  pub before : List Entry
  pub entry : Entry
  pub after : List Entry
  pub entries_are : es ≡ before ++ entry ∷ after
  pub place_is : place ≡ length before
  pub def_is : def entry ≡ record { name = name; list = list } ∷ []

pub split_at : {X : Type 0} (def : Entry → List (Definition X)) (es : List Entry) (place : ℕ) (name : List ℕ) (list : List (Signed X))
    → DefinedAt def es place name list → IsSplit def es place name list
split_at def [] place name list at = absurd (none-some _ at)
split_at {X} def (e ∷ es) zero name list at = record {
  before = [];
  entry = e;
  after = es;
  entries_are = refl;
  place_is = refl;
  def_is = ap (λ o. unwrap_or o []) at;
}
split_at def (e ∷ es) (suc place) name list at =
    let s = split_at def es place name list at in
    record {
      before = e ∷ s.before;
      entry = s.entry;
      after = s.after;
      entries_are = ap (λ (xs : List Entry). e ∷ xs) s.entries_are;
      place_is = omega (arith, s.place_is);
      def_is = s.def_is;
    }

-- one more entry at the end
pub defined_before : {X : Type 0} (def : Entry → List (Definition X)) (es : List Entry) (e : Entry) (place : ℕ) (name : List ℕ) (list : List (Signed X))
    → DefinedAt def es place name list → DefinedAt def (es ++ e ∷ []) place name list
defined_before def [] e place name list at = absurd (none-some _ at)
defined_before def (x ∷ es) e zero name list at = at
defined_before def (x ∷ es) e (suc place) name list at = defined_before def es e place name list at

pub defined_last : {X : Type 0} (def : Entry → List (Definition X)) (es : List Entry) (e : Entry) (name : List ℕ) (list : List (Signed X))
    → def e ≡ record { name = name; list = list } ∷ [] → DefinedAt def (es ++ e ∷ []) (length es) name list
defined_last def [] e name list is = ap Some is
defined_last def (x ∷ es) e name list is = defined_last def es e name list is
