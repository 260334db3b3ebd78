-- The outcome of one call, after which another tells the outcome of both.
use Rattle.std.proofs.Common.{◌≡◌, ◌∙◌, ◌⊎◌, ◌↔◌, inl, inr, ℕ, ◌≤◌, Result, Ok, Err, IsSome, arith, sym}
use Rattle.std.specs.Prelude.{OnOk, OnErr, IsOk, IsErr, IsErrAnd}
use Rattle.desk_store.specs.declared.error.KeeperError.{KeeperError}
use Rattle.desk_store.specs.declared.error.KeeperError.TheVariants.{NoMemory, Storage}
use Rattle.desk_store.specs.Keeping.{HasFailed}
use Rattle.sqlite.specs.State.{State}
use Rattle.store_tables.specs.Causes.{IsExplained, IsOfMemory}
use Rattle.store_tables.specs.declared.fault.Fault.{Fault}

module _ {T U E F : Type 0} (r : Result T E) (s : Result U F) where
  -- the Ok of the first says what the Ok of the second says
  pub behind_ok : (P Q : Type 0) → OnOk r (IsOk s) → (P → Q) → OnOk s P → OnOk r Q
  behind_ok P Q done on p = go r s done p
    where
      go : (r : Result T E) (s : Result U F) → OnOk r (IsOk s) → OnOk s P → OnOk r Q
      go (Ok a) (Ok b) done p = on p
      go (Ok a) (Err f) done p = absurd cc
      go (Err e) s done p = tt

  -- and what it says besides, if that holds
  pub then_ok : (P Q R : Type 0) → OnOk r (IsOk s) → OnOk s P → (P → OnOk s Q) → (P → Q → R) → OnOk r R
  then_ok P Q R done p more on = go r s done p more
    where
      go : (r : Result T E) (s : Result U F) → OnOk r (IsOk s) → OnOk s P → (P → OnOk s Q) → OnOk r R
      go (Ok a) (Ok b) done p more = on p (more p)
      go (Ok a) (Err f) done p more = absurd cc
      go (Err e) s done p more = tt

  pub behind_err : (P : Type 0) → OnErr r (IsErr s) → OnErr s P → OnErr r P
  behind_err P refused p = go r s refused p
    where
      go : (r : Result T E) (s : Result U F) → OnErr r (IsErr s) → OnErr s P → OnErr r P
      go (Err a) (Err b) refused p = p
      go (Err a) (Ok f) refused p = absurd cc
      go (Ok e) s refused p = tt

  -- the keeper is up, or a failure was counted
  pub up_or_failed : (P Q : Type 0) → OnOk r (IsOk s) → OnOk s P → OnErr r Q → P ⊎ Q
  up_or_failed P Q done p q = go r s done p q
    where
      go : (r : Result T E) (s : Result U F) → OnOk r (IsOk s) → OnOk s P → OnErr r Q → P ⊎ Q
      go (Ok a) (Ok b) done p q = inl p
      go (Ok a) (Err f) done p q = absurd cc
      go (Err e) s done p q = inr q

-- what holds for an Err holds for a result that is this Err
pub of_err : {T E : Type 0} (r : Result T E) (e : E) (P : Type 0) → OnErr r P → r ≡ Err e → P
of_err (Ok a) e P p is = absurd cc
of_err (Err x) e P p is = p

-- for an Err, a clause about Ok says nothing; and what holds anyway holds for an Err
pub not_ok : {T E : Type 0} (r : Result T E) (P : Type 0) → IsErr r → OnOk r P
not_ok (Ok a) P is = absurd cc
not_ok (Err e) P is = tt

pub where_err : {T E : Type 0} (r : Result T E) (P : Type 0) → P → OnErr r P
where_err (Ok a) P p = tt
where_err (Err e) P p = p

pub ok_no_err : {T E P : Type 0} (x : T) (e : E) → ◌≡◌ {A = Result T E} (Ok x) (Err e) → P
ok_no_err x e is = absurd cc

-- an Err that says that memory ran out says nothing of the storage
other_cause : {T : Type 0} (x : KeeperError) → x ≡ NoMemory → ◌≡◌ {A = Result T KeeperError} (Err x) (Err Storage) → ⊥
other_cause x is says = cc

pub no_memory : {T : Type 0} (r : Result T KeeperError) (e : KeeperError) (P : Type 0) → IsErrAnd r (λ x. x ≡ e) → e ≡ NoMemory → r ≡ Err Storage → P
no_memory (Ok a) e P handed is says = absurd cc
no_memory (Err x) e P handed is says = absurd (other_cause x (handed ∙ is) says)

-- where an Err has the property, it has what follows
pub on_err : {T E : Type 0} (r : Result T E) (P Q : Type 0) → (P → Q) → OnErr r P → OnErr r Q
on_err (Ok a) P Q on p = tt
on_err (Err e) P Q on p = on p

-- a failure that was counted later
pub failed_since : (a b c : ℕ) → a ≤ b → HasFailed b c → HasFailed a c
failed_since a b c before failed = elim failed [ inl rose ↦ inl (omega (arith, before, rose)) | inr most ↦ inr most ]

-- what is told as the storage's, and has a cause, is no want of memory
pub storage_caused : (old new : State) (f : Fault) (e : KeeperError) → ((e ≡ NoMemory) ↔ IsOfMemory f) → IsExplained old new f
    → e ≡ Storage → HasFailed old.faults new.faults ⊎ IsSome old.step_limit
storage_caused old new f e told (inl memory) is = absurd (let e = sym (told.1 memory) ∙ is in cc)
storage_caused old new f e told (inr cause) is = cause
