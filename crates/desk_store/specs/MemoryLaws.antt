-- Two keepers in memory with the same content keep the same of a desk. For private clauses.
use Rattle.std.specs.Prelude.{◌≡◌, [], None, IsSome, unwrap_or}
use Rattle.std.proofs.Common.{refl, sym, ◌∙◌, subst, ap}
use Rattle.store_tables.specs.Sets.{SameSet}
use Rattle.desk_store.specs.Memory.{MemoryHolds, MemoryContent}

pub same_itself : (a : MemoryContent) → a ≡ a
same_itself a = refl

pub same_back : (a b : MemoryContent) → b ≡ a → a ≡ b
same_back a b same = sym same

pub same_on : (a b c : MemoryContent) → b ≡ a → c ≡ b → c ≡ a
same_on a b c first second = second ∙ first

pub stays_empty : (a b : MemoryContent) → b ≡ a → a.roster ≡ None → b.roster ≡ None
stays_empty a b same none = ap (λ (k : MemoryContent). k.roster) same ∙ none

pub stays_desk : (a b : MemoryContent) → b ≡ a → IsSome a.roster → IsSome b.roster
stays_desk a b same some =
    let P : MemoryContent → Type 0 = λ k. IsSome k.roster in
    subst P (sym same) some

pub stays_old : (a b : MemoryContent) → b ≡ a → ⊥ → ⊥ × SameSet (MemoryHolds a) (MemoryHolds b)
    × (unwrap_or b.roster [] ≡ unwrap_or a.roster [])
stays_old a b same none = absurd none

pub stays_roster : (a b : MemoryContent) → b ≡ a → IsSome a.roster
    → unwrap_or b.roster [] ≡ unwrap_or a.roster []
stays_roster a b same some = ap (λ (k : MemoryContent). unwrap_or k.roster []) same

pub stays_set : (a b : MemoryContent) → b ≡ a → IsSome a.roster
    → SameSet (MemoryHolds a) (MemoryHolds b)
stays_set a b same some =
    let P : MemoryContent → Type 0 = λ k. SameSet (MemoryHolds a) (MemoryHolds k) in
    subst P (sym same) (λ m. (λ h. h, λ h. h))
