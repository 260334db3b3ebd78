-- What the desk answers to a delivery, and which messages it holds then.
use Rattle.std.specs.Prelude.{◌≡◌, ◌≢◌, ◌⊎◌, ℕ, ◌<◌, ◌≤◌, ◌+◌, ◌-◌, ◌^◌, true, false, List, [], ◌∷◌}
use Rattle.std.specs.Prelude.{Contains, length, Result, Ok, Err, IsOk, String, Vec, string_bytes}
use Rattle.std.specs.List.{AllZip}
use Rattle.std.specs.declared.alloc.Global.{Global}
use Rattle.sudo_words.specs.declared.cmnd.Cmnd.{Cmnd}
use Rattle.messages.specs.Canonical.{IsCanonicalText}
use Rattle.messages.specs.Wire.{wire, IsMessage}
use Rattle.messages.specs.declared.message.Message.{Message}
use Rattle.roster.specs.Fields.{RosterFields}
use Rattle.roster.specs.Rules.{is_among}
use Rattle.grants.specs.Admission.{Admits, IsDenial}
use Rattle.store_tables.specs.Sets.{SameSet}
use Rattle.desk.specs.Refusals.{IsWant}
use Rattle.desk.specs.declared.ack.Ack.{Ack}
use Rattle.desk.specs.declared.refusal.Refusal.{Refusal}
use Rattle.desk.specs.declared.refusal.Refusal.TheVariants.{UnknownRelay, TooLong, NotCanonical}
use Rattle.desk.specs.declared.refusal.Refusal.TheVariants.{BadField, Denied, Storage}

-- A relay brings a body. The relay vouches for it, and has no other effect.
pub record Delivery : Type 0 where
  pub relay : List ℕ
  pub body : List ℕ

-- ---- the answer

-- the body is the text of the message, and not too long
pub record IsBodyOf (body : List ℕ) (m : Message) : Type 0 where
  pub message : IsMessage m
  pub text : body ≡ wire m
  pub short : length body ≤ 16_384

-- The answer to a body of a known relay: the message is acknowledged where the roster admits it,
-- else the first fault is told.
abbrev pub AnswersBody : RosterFields Cmnd → (body : List ℕ) → Result Ack Refusal → Type 0
AnswersBody f body (Ok ack) = (m : Message) × IsBodyOf body m × Admits f m
AnswersBody f body (Err TooLong) = 16_384 < length body
AnswersBody f body (Err NotCanonical) = (length body ≤ 16_384) × (¬ IsCanonicalText body)
AnswersBody f body (Err BadField) =
    (length body ≤ 16_384) × IsCanonicalText body × ((m : Message) → IsMessage m → body ≢ wire m)
AnswersBody f body (Err (Denied d)) = (m : Message) × IsBodyOf body m × IsDenial f m d
AnswersBody f body (Err _) = ⊥

-- The answer to a delivery, where memory lasts and the storage holds: at most one, by a law. A
-- relay that the roster lacks comes before every fault of the body.
abbrev pub Answers : RosterFields Cmnd → Delivery → Result Ack Refusal → Type 0
Answers f d answer =
    ((is_among f.relays d.relay ≡ false) × (answer ≡ Err UnknownRelay))
    ⊎ ((is_among f.relays d.relay ≡ true) × AnswersBody f d.body answer)

-- the answer tells that memory or the storage was wanting
abbrev pub WasWanting : Result Ack Refusal → Type 0
WasWanting (Ok ack) = ⊥
WasWanting (Err e) = IsWant e

-- The answer is right, unless memory or the storage was wanting; and where there is a right answer,
-- that one is given, unless memory or the storage was wanting.
pub record IsDeliveryAnswer (f : RosterFields Cmnd)
    (d : Delivery) (answer : Result Ack Refusal) : Type 0 where
  pub sound : WasWanting answer ⊎ Answers f d answer
  pub complete : (right : Result Ack Refusal)
      → Answers f d right → WasWanting answer ⊎ (answer ≡ right)

-- ---- the set

-- the delivery brought the message, and was acknowledged
abbrev pub Acknowledges : Delivery → Result Ack Refusal → Message → Type 0
Acknowledges d answer m = IsMessage m × (d.body ≡ wire m) × IsOk answer

-- What is held then is exactly what was held, and the message that was acknowledged. A refusal
-- changes nothing.
abbrev pub HeldAfter : (old : Message → Type 0) → Delivery
    → Result Ack Refusal → (new : Message → Type 0) → Type 0
HeldAfter old d answer new = SameSet (λ m. old m ⊎ Acknowledges d answer m) new

-- ---- many deliveries

-- one of the deliveries brought the message, and was acknowledged
abbrev pub AcknowledgesAmong : List Delivery → List (Result Ack Refusal) → Message → Type 0
AcknowledgesAmong [] answers m = ⊥
AcknowledgesAmong (d ∷ ds) [] m = ⊥
AcknowledgesAmong (d ∷ ds) (answer ∷ answers) m =
    Acknowledges d answer m ⊎ AcknowledgesAmong ds answers m

-- each delivery has its answer, in order
abbrev pub AreAnswers : RosterFields Cmnd → List Delivery → List (Result Ack Refusal) → Type 0
AreAnswers f ds answers = AllZip (IsDeliveryAnswer f) ds answers

-- What is held then is exactly what was held, and each message that was acknowledged.
abbrev pub HeldAfterAll : (old : Message → Type 0) → List Delivery
    → List (Result Ack Refusal) → (new : Message → Type 0) → Type 0
HeldAfterAll old ds answers new = SameSet (λ m. old m ⊎ AcknowledgesAmong ds answers m) new

-- one of the answers tells that memory or the storage was wanting
abbrev pub WasWantingAmong : List (Result Ack Refusal) → Type 0
WasWantingAmong answers =
    (answer : Result Ack Refusal) × Contains answers answer × WasWanting answer

-- 1 where the answer tells that the storage failed, else 0
abbrev pub storage_failure : Result Ack Refusal → ℕ
storage_failure (Err Storage) = 1
storage_failure _ = 0

-- how many of the answers tell that the storage failed
abbrev pub storage_failures : List (Result Ack Refusal) → ℕ
storage_failures [] = 0
storage_failures (answer ∷ answers) = storage_failure answer + storage_failures answers

-- So many failures were counted, or the count stands at the greatest number of 64 bits.
abbrev pub HaveFailed : (many before after : ℕ) → Type 0
HaveFailed many before after = (before + many ≤ after) ⊎ (2 ^ 64 - 1 ≤ after)

-- a relay's name and a body, as the desk is lent them
abbrev pub delivery_of : String Global × Vec ℕ Global → Delivery
delivery_of d = record { relay = string_bytes d.0; body = d.1.items }
