-- What a keeper in memory holds after a message was added to the others.
use Rattle.std.proofs.Common.{◌≡◌, ◌⊎◌, ℕ, List, [], ◌∷◌, ◌++◌, Result, Ok, Err, sym, subst, inl, inr}
use Rattle.std.specs.Prelude.{Option, Contains, IfOk, OnOk}
use Rattle.std.proofs.lemmas.List.Elements.{Contains-append_left, Contains-push, Contains-push_cases}
use Rattle.messages.specs.Wire.{IsMessage}
use Rattle.messages.specs.declared.message.Message.{Message}
use Rattle.desk_store.specs.private.Collected.{IsPut}
use Rattle.desk_store.specs.Memory.{MemoryHolds}
use Rattle.store_tables.specs.Arrivals.{IsTold}
use Rattle.store_tables.specs.declared.arrival.Arrival.{Arrival}
use Rattle.store_tables.specs.declared.arrival.Arrival.TheVariants.{New, Held}
use Rattle.store_tables.specs.Sets.{IsWith}

turned : (m n : Message) → m ≡ n → n ≡ m
turned m n is = sym is

pub put_adds : (r : Option (List ℕ)) (old : List Message) (m : Message) (new : List Message) → IsMessage m → IsPut old m new
    → IsWith (MemoryHolds (record { roster = r; messages = old })) m (MemoryHolds (record { roster = r; messages = new }))
put_adds r old m new is (inl (there, same)) = λ n. (
  λ held. elim held as (λ _. IsMessage n × Contains new n) [
    | inl before ↦ (before.0, let P : List Message → Type 0 = λ l. Contains l n in subst P (sym same) before.1)
    | inr equal ↦ (
      let P : Message → Type 0 = IsMessage in subst P (sym equal) is,
      let P : List Message → Type 0 = λ l. Contains l n in
          let Q : Message → Type 0 = λ x. Contains old x in
          subst P (sym same) (subst Q (sym equal) there),
    )
  ],
  λ held. inl (held.0, let P : List Message → Type 0 = λ l. Contains l n in subst P same held.1),
)
put_adds r old m new is (inr (absent, behind)) = λ n. (
  λ held. elim held as (λ _. IsMessage n × Contains new n) [
    | inl before ↦
        (before.0, let P : List Message → Type 0 = λ l. Contains l n in subst P (sym behind) (Contains-append_left old (m ∷ []) n before.1))
    | inr equal ↦ (
      let P : Message → Type 0 = IsMessage in subst P (sym equal) is,
      let P : List Message → Type 0 = λ l. Contains l n in
          let Q : Message → Type 0 = λ x. Contains (old ++ m ∷ []) x in
          subst P (sym behind) (subst Q (sym equal) (Contains-push old m)),
    )
  ],
  λ held. let P : List Message → Type 0 = λ l. Contains l n in
      elim (Contains-push_cases old m n (subst P behind held.1)) as (λ _. (IsMessage n × Contains old n) ⊎ (n ≡ m)) [
        | inl before ↦ inl (held.0, before)
        | inr equal ↦ inr (turned m n equal)
      ],
)

pub put_adds_at_ok : {A E : Type 0} (result : Result A E) (r : Option (List ℕ)) (old : List Message) (m : Message) (new : List Message) → IsMessage m
    → OnOk result (IsPut old m new)
    → OnOk result (IsWith (MemoryHolds (record { roster = r; messages = old })) m (MemoryHolds (record { roster = r; messages = new })))
put_adds_at_ok (Ok a) r old m new is put = put_adds r old m new is put
put_adds_at_ok (Err e) r old m new is put = tt

-- what is told of the list is told of the keeper
pub put_told : {E : Type 0} (result : Result Arrival E) (r : Option (List ℕ)) (old : List Message) (m : Message) → IsMessage m
    → IfOk result (IsTold (Contains old m)) → IfOk result (IsTold (MemoryHolds (record { roster = r; messages = old }) m))
put_told (Ok Held) r old m is there = (is, there)
put_told (Ok New) r old m is absent = λ held. absent held.1
put_told (Err e) r old m is told = tt
