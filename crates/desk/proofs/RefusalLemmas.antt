-- A keeper's error that a `?` hands on as a refusal.
use Rattle.std.proofs.Common.{◌≡◌, ◌≢◌, ◌⊎◌, ℕ, inl, inr, Result, Ok, Err}
use Rattle.std.specs.Prelude.{IfErr, IsErr, IsErrAnd}
use Rattle.messages.specs.declared.fault.MessageFault.{MessageFault}
use Rattle.messages.specs.declared.fault.MessageFault.TheVariants as faults
use Rattle.store_schema.specs.Beside.{TableWithRows}
use Rattle.desk_store.specs.declared.error.KeeperError.{KeeperError}
use Rattle.desk_store.specs.declared.error.KeeperError.TheVariants as errors
use Rattle.desk_store.specs.Serving.{IsServed}
use Rattle.desk_store.proofs.ServingLemmas.{served_as}
use Rattle.desk.specs.Refusals.{IsWant, refusal_of_error, refusal_of_fault}
use Rattle.desk.specs.declared.refusal.Refusal.{Refusal}
use Rattle.desk.specs.declared.refusal.Refusal.TheVariants.{Storage, BaseTooLarge}

-- the call answered `Storage` where the refusal is that
pub told_storage : {A B : Type 0} (error : KeeperError) (s : Result B KeeperError) (r : Result A Refusal) → s ≡ Err error
    → IsErrAnd r (λ e. e ≡ refusal_of_error error) → r ≡ Err Storage → s ≡ Err errors.Storage
told_storage errors.Storage s r was is told = was
told_storage errors.NoMemory s (Ok x) was is told = absurd is
told_storage errors.NoMemory s (Err e) was is told = absurd cc

-- memory or the storage was wanting
pub told_want : {A : Type 0} (error : KeeperError) (r : Result A Refusal) (P : Refusal → Type 0) → IsErrAnd r (λ e. e ≡ refusal_of_error error)
    → IfErr r (λ e. IsWant e ⊎ P e)
told_want errors.Storage (Ok x) P is = absurd is
told_want errors.NoMemory (Ok x) P is = absurd is
told_want errors.Storage (Err e) P is = inl (inr is)
told_want errors.NoMemory (Err e) P is = inl (inl is)

-- and no base was too large
pub told_no_base : {A : Type 0} (error : KeeperError) (r : Result A Refusal) → IsErrAnd r (λ e. e ≡ refusal_of_error error) → IfErr r (λ e. e ≢ BaseTooLarge)
told_no_base errors.Storage (Ok x) is = absurd is
told_no_base errors.NoMemory (Ok x) is = absurd is
told_no_base errors.Storage (Err e) is = λ large. absurd cc
told_no_base errors.NoMemory (Err e) is = λ large. absurd cc

-- so memory or the storage was wanting, and the keeper may be down
told_lack : {A : Type 0} (error : KeeperError) (r : Result A Refusal) → IsErrAnd r (λ e. e ≡ refusal_of_error error) → IsErrAnd r IsWant
told_lack errors.Storage (Ok x) is = absurd is
told_lack errors.NoMemory (Ok x) is = absurd is
told_lack errors.Storage (Err e) is = inr is
told_lack errors.NoMemory (Err e) is = inl is

-- what storage did to the call
pub handed_on : {A B K : Type 0} {is_up is_clean : K → Type 0} {failures : K → ℕ} {beside : K → TableWithRows
    → Type 0} {a b : K} (error : KeeperError) (s : Result B KeeperError) (r : Result A Refusal)
    → s ≡ Err error → IsErrAnd r (λ e. e ≡ refusal_of_error error) → IsServed is_up is_clean failures beside a b (s ≡ Err errors.Storage) (IsErr s)
    → IsServed is_up is_clean failures beside a b (r ≡ Err Storage) (IsErrAnd r IsWant)
handed_on error s r was is served = served_as (r ≡ Err Storage) (IsErrAnd r IsWant) (told_storage error s r was is) (λ _. told_lack error r is) served

-- a refusal that can only be one of want is one
pub wants : {A : Type 0} (r : Result A Refusal) → IfErr r IsWant → IsErr r → IsErrAnd r IsWant
wants (Ok x) want is = absurd cc
wants (Err e) want is = want

-- what a reader refuses is not a failure of the storage
pub no_storage : {A : Type 0} (fault : MessageFault) (r : Result A Refusal) → IsErrAnd r (λ e. e ≡ refusal_of_fault fault) → IfErr r (λ e. e ≢ Storage)
no_storage faults.TooLong (Ok x) is = tt
no_storage faults.NotCanonical (Ok x) is = tt
no_storage faults.BadField (Ok x) is = tt
no_storage faults.NoMemory (Ok x) is = tt
no_storage faults.TooLong (Err e) is = λ storage. absurd cc
no_storage faults.NotCanonical (Err e) is = λ storage. absurd cc
no_storage faults.BadField (Err e) is = λ storage. absurd cc
no_storage faults.NoMemory (Err e) is = λ storage. absurd cc

-- a keeper's error is a want
pub is_want : (error : KeeperError) (e : Refusal) → e ≡ refusal_of_error error → IsWant e
is_want errors.Storage e is = inr is
is_want errors.NoMemory e is = inl is
