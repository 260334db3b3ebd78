-- What storage does to calls, one after the other.
use Rattle.std.proofs.Common.{◌≡◌, ◌⊎◌, ℕ, ◌≤◌, true, false, le_refl, inl, inr, arith}
use Rattle.store_schema.specs.Beside.{TableWithRows}
use Rattle.desk_store.specs.Keeping.{HasFailed}
use Rattle.desk_store.specs.Serving.{IsServed}

-- ---- failures that were counted

pub failed_sooner : (a b c : ℕ) → HasFailed a b → b ≤ c → HasFailed a c
failed_sooner a b c (inl rose) below = inl (omega (arith, rose, below))
failed_sooner a b c (inr greatest) below = inr (omega (arith, greatest, below))

pub failed_later : (a b c : ℕ) → a ≤ b → HasFailed b c → HasFailed a c
failed_later a b c below (inl rose) = inl (omega (arith, rose, below))
failed_later a b c below (inr greatest) = inr greatest

-- ---- whether the keeper is up

-- an answer that is not a `Want`
pub not_err : {Up : Type 0} → (false ≡ true) ⊎ Up → Up
not_err (inl want) = absurd cc
not_err (inr up) = up

pub no_want : {Up : Type 0} → ⊥ ⊎ Up → Up
no_want (inl none) = absurd none
no_want (inr up) = up

-- ---- calls one after the other

module _ {K : Type 0} {is_up is_clean : K → Type 0} {failures : K → ℕ} {beside : K → TableWithRows → Type 0} where
  -- nothing was called
  pub served_by_none : (k : K) (Storage Want : Type 0) → (Storage → ⊥) → IsServed is_up is_clean failures beside k k Storage Want
  served_by_none k Storage Want other = record {
    was_up = λ up. up;
    was_clean = λ clean. clean;
    shuts = λ up _. inl up;
    counts = le_refl _;
    cause = λ storage. absurd (other storage);
    up = λ up _. inr up;
    others = λ up it stands. stands;
  }

  -- the same call, with another answer
  pub served_as : {a b : K} {S W : Type 0} (S' W' : Type 0) → (S' → S) → (W → W')
      → IsServed is_up is_clean failures beside a b S W → IsServed is_up is_clean failures beside a b S' W'
  served_as S' W' storage want s = record {
    was_up = s.was_up;
    was_clean = s.was_clean;
    shuts = s.shuts;
    counts = s.counts;
    cause = λ is. s.cause (storage is);
    up = λ up clean. elim (s.up up clean) [ inl is ↦ inl (want is) | inr still ↦ inr still ];
    others = s.others;
  }

  -- two calls, one after the other
  pub served_both : {a b c : K} {S W T V : Type 0} → IsServed is_up is_clean failures beside a b S W → IsServed is_up is_clean failures beside b c T V
      → IsServed is_up is_clean failures beside a c (S ⊎ T) (W ⊎ V)
  served_both {a} {b} {c} {S} {W} {T} {V} first second = record {
    was_up = λ up. first.was_up (second.was_up up);
    was_clean = λ clean. first.was_clean (second.was_clean clean);
    shuts = λ up clean. elim (first.shuts up (second.was_clean clean)) as (λ _. is_up c ⊎ HasFailed (failures a) (failures c)) [
      | inl mid ↦ elim (second.shuts mid clean) as (λ _. is_up c ⊎ HasFailed (failures a) (failures c)) [
        | inl still ↦ inl still
        | inr failed ↦ inr (failed_later (failures a) (failures b) (failures c) first.counts failed)
      ]
      | inr failed ↦ inr (failed_sooner (failures a) (failures b) (failures c) failed second.counts)
    ];
    counts = omega (arith, first.counts, second.counts);
    cause = λ told. elim told as (λ _. HasFailed (failures a) (failures c)) [
      | inl sooner ↦ failed_sooner (failures a) (failures b) (failures c) (first.cause sooner) second.counts
      | inr later ↦ failed_later (failures a) (failures b) (failures c) first.counts (second.cause later)
    ];
    up = λ up clean. elim (first.up up (second.was_clean clean)) as (λ _. (W ⊎ V) ⊎ is_up c) [
      | inl sooner ↦ inl (inl sooner)
      | inr mid ↦ elim (second.up mid clean) as (λ _. (W ⊎ V) ⊎ is_up c) [
        | inl later ↦ inl (inr later)
        | inr still ↦ inr still
      ]
    ];
    others = λ up it stands. second.others up it (first.others (second.was_up up) it stands);
  }

  -- two calls, of which the second gives the answer
  pub served_then : {a b c : K} {S W T V : Type 0} → (W → V) → IsServed is_up is_clean failures beside a b S W → IsServed is_up is_clean failures beside b c T V
      → IsServed is_up is_clean failures beside a c T V
  served_then {a} {b} {c} {S} {W} {T} {V} want first second =
      served_as T V (λ told. inr told) (λ told. elim told as (λ _. V) [ inl sooner ↦ want sooner | inr later ↦ later ]) (served_both first second)

  -- after a call that answered Ok
  pub served_after : {a b c : K} {S T V : Type 0} → IsServed is_up is_clean failures beside a b S (false ≡ true)
      → IsServed is_up is_clean failures beside b c T V → IsServed is_up is_clean failures beside a c T V
  served_after first second = served_then (λ want. absurd cc) first second

  -- such a call, with an answer that tells of no failure of the storage
  pub served_at_ok : {a b : K} {S : Type 0} (Storage Want : Type 0) → (Storage → ⊥)
      → IsServed is_up is_clean failures beside a b S (false ≡ true) → IsServed is_up is_clean failures beside a b Storage Want
  served_at_ok Storage Want other s = served_as Storage Want (λ is. absurd (other is)) (λ want. absurd cc) s
