-- What many answers tell of the storage, once one more delivery is answered.
use Rattle.std.proofs.Common.{◌≡◌, ℕ, ◌+◌, ◌≤◌, List, [], ◌∷◌, ◌++◌, Result, Ok, Err, refl, inl, inr, arith}
use Rattle.std.specs.Prelude.{IsErrAnd}
use Rattle.std.proofs.lemmas.List.Elements.{Contains-append_left, Contains-push}
use Rattle.desk_store.specs.Keeping.{HasFailed}
use Rattle.desk.specs.Delivery.{HaveFailed, WasWantingAmong, storage_failure, storage_failures}
use Rattle.desk.specs.Refusals.{IsWant}
use Rattle.desk.specs.declared.ack.Ack.{Ack}
use Rattle.desk.specs.declared.refusal.Refusal.{Refusal}
use Rattle.desk.specs.declared.refusal.Refusal.TheVariants.{UnknownRelay, UnknownHost, TooLong, NotCanonical, BadField, Denied, TooManyRules}
use Rattle.desk.specs.declared.refusal.Refusal.TheVariants.{RosterChanged, NotADesk, OldSchema, Storage, NoMemory, BaseTooLarge}

abbrev Answer : Type 0
Answer = Result Ack Refusal

-- ---- whether memory or the storage was wanting

pub wanting_before : (answers : List Answer) (a : Answer) → WasWantingAmong answers → WasWantingAmong (answers ++ a ∷ [])
wanting_before answers a among = (among.0, Contains-append_left answers (a ∷ []) among.0 among.1, among.2)

pub wanting_now : (answers : List Answer) (a : Answer) → IsErrAnd a IsWant → WasWantingAmong (answers ++ a ∷ [])
wanting_now answers (Ok ack) none = absurd none
wanting_now answers (Err e) want = (Err e, Contains-push answers (Err e), want)

-- ---- how many failures were counted

pub failures_push : (answers : List Answer) (a : Answer) → storage_failures (answers ++ a ∷ []) ≡ storage_failures answers + storage_failure a
failures_push [] a = omega arith
failures_push (b ∷ answers) a = let more = failures_push answers a in omega (arith, more)

-- one answer more, and no failure that it tells
calm : (n a b c : ℕ) → HaveFailed n a b → b ≤ c → HaveFailed (n + 0) a c
calm n a b c (inl counted) below = inl (omega (arith, counted, below))
calm n a b c (inr greatest) below = inr (omega (arith, greatest, below))

-- one answer more, and a failure that it tells
failed : (n a b c : ℕ) → HaveFailed n a b → b ≤ c → HasFailed b c → HaveFailed (n + 1) a c
failed n a b c (inl counted) below (inl rose) = inl (omega (arith, counted, rose))
failed n a b c (inl counted) below (inr greatest) = inr greatest
failed n a b c (inr greatest) below rose = inr (omega (arith, greatest, below))

pub have_failed_push : (n a b c : ℕ) (answer : Answer) → HaveFailed n a b → b ≤ c
    → (answer ≡ Err Storage → HasFailed b c) → HaveFailed (n + storage_failure answer) a c
have_failed_push n a b c (Ok ack) before below cause = calm n a b c before below
have_failed_push n a b c (Err Storage) before below cause = failed n a b c before below (cause refl)
have_failed_push n a b c (Err UnknownRelay) before below cause = calm n a b c before below
have_failed_push n a b c (Err UnknownHost) before below cause = calm n a b c before below
have_failed_push n a b c (Err TooLong) before below cause = calm n a b c before below
have_failed_push n a b c (Err NotCanonical) before below cause = calm n a b c before below
have_failed_push n a b c (Err BadField) before below cause = calm n a b c before below
have_failed_push n a b c (Err (Denied denial)) before below cause = calm n a b c before below
have_failed_push n a b c (Err TooManyRules) before below cause = calm n a b c before below
have_failed_push n a b c (Err RosterChanged) before below cause = calm n a b c before below
have_failed_push n a b c (Err NotADesk) before below cause = calm n a b c before below
have_failed_push n a b c (Err OldSchema) before below cause = calm n a b c before below
have_failed_push n a b c (Err NoMemory) before below cause = calm n a b c before below
have_failed_push n a b c (Err BaseTooLarge) before below cause = calm n a b c before below
