-- A database that stays the same keeps the same of a desk. For private clauses.
use Rattle.std.specs.Prelude.{◌≡◌}
use Rattle.std.proofs.Common.{refl, sym, ◌∙◌, subst, ap}
use Rattle.sqlite.specs.Effect.{Database}
use Rattle.store_tables.specs.Kept.{HoldsText}
use Rattle.store_tables.specs.Sets.{SameSet}
use Rattle.store_tables.specs.Stored.{content_of}
use Rattle.store_schema.specs.Shapes.{IsVacant}
use Rattle.store_opening.specs.Opened.{IsKept, IsOldDesk}

pub same_itself : (a : Database) → a ≡ a
same_itself a = refl

pub same_back : (a b : Database) → b ≡ a → a ≡ b
same_back a b same = sym same

pub same_on : (a b c : Database) → b ≡ a → c ≡ b → c ≡ a
same_on a b c first second = second ∙ first

pub stays_empty : (a b : Database) → b ≡ a → IsVacant a.schema → IsVacant b.schema
stays_empty a b same vacant =
    let P : Database → Type 0 = λ d. IsVacant d.schema in
    subst P (sym same) vacant

pub stays_desk : (a b : Database) → b ≡ a → IsKept a → IsKept b
stays_desk a b same desk = subst IsKept (sym same) desk

pub stays_roster : (a b : Database) → b ≡ a → (content_of b).roster ≡ (content_of a).roster
stays_roster a b same = ap (λ (d : Database). (content_of d).roster) same

pub stays_set : (a b : Database) → b ≡ a → SameSet (HoldsText a) (HoldsText b)
stays_set a b same =
    let P : Database → Type 0 = λ d. SameSet (HoldsText a) (HoldsText d) in
    subst P (sym same) (λ m. (λ h. h, λ h. h))

pub stays_old : (a b : Database) → b ≡ a → IsOldDesk a
    → IsOldDesk b × SameSet (HoldsText a) (HoldsText b)
    × ((content_of b).roster ≡ (content_of a).roster)
stays_old a b same old =
    (subst IsOldDesk (sym same) old, stays_set a b same, stays_roster a b same)
