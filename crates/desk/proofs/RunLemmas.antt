-- What a run leaves is what was held before it, and the set that it acknowledges.
use Rattle.std.proofs.Common.{◌≡◌, ◌⊎◌, List, [], ◌∷◌, ◌++◌, Result, Ok, Err, sym, subst, inl, inr}
use Rattle.std.specs.List.{Contains}
use Rattle.std.proofs.lemmas.List.Elements.{Contains-append_left, Contains-push, Contains-push_cases}
use Rattle.sudo_words.specs.declared.cmnd.Cmnd.{Cmnd}
use Rattle.messages.specs.Names.{SameMessages}
use Rattle.messages.specs.declared.message.Message.{Message}
use Rattle.roster.specs.Fields.{RosterFields}
use Rattle.store_tables.specs.Sets.{SameSet, IsWith}
use Rattle.desk.specs.declared.ack.Ack.{Ack}
use Rattle.desk.specs.declared.refusal.Refusal.{Refusal}
use Rattle.desk.specs.Delivery.{AcknowledgesAmong, AreAnswers, Delivery, HeldAfter, HeldAfterAll, IsDeliveryAnswer}
use Rattle.desk.specs.Runs.{Event, Delivered, Asked, IsRun, IsAckedIn, SameAcked, run_of_deliveries}
use Rattle.desk.proofs.DeliveryLemmas.{held_at_ok}

-- ---- what a run leaves

stays : (f : RosterFields Cmnd) (old new : List Message) (run : List Event) → IsRun f old run new
    → (m : Message) → (Contains old m ⊎ IsAckedIn run m) → Contains new m
stays f old new [] is m (inl held) = (is m).0 held
stays f old new [] is m (inr acked) = absurd acked
stays f old new (Delivered d answer ∷ run) is m (inl held) = stays f is.0 new run is.3 m (inl ((is.2 m).0 (inl held)))
stays f old new (Delivered d answer ∷ run) is m (inr (inl now)) = stays f is.0 new run is.3 m (inl ((is.2 m).0 (inr now)))
stays f old new (Delivered d answer ∷ run) is m (inr (inr later)) = stays f is.0 new run is.3 m (inr later)
stays f old new (Asked ∷ run) is m h = stays f old new run is m h

only : (f : RosterFields Cmnd) (old new : List Message) (run : List Event) → IsRun f old run new
    → (m : Message) → Contains new m → Contains old m ⊎ IsAckedIn run m
only f old new [] is m held = inl ((is m).1 held)
only f old new (Delivered d answer ∷ run) is m held =
    elim (only f is.0 new run is.3 m held) as (λ _. Contains old m ⊎ IsAckedIn (Delivered d answer ∷ run) m) [
      | inl sooner ↦ elim ((is.2 m).1 sooner) as (λ _. Contains old m ⊎ IsAckedIn (Delivered d answer ∷ run) m) [
        | inl before ↦ inl before
        | inr now ↦ inr (inl now)
      ]
      | inr later ↦ inr (inr later)
    ]
only f old new (Asked ∷ run) is m held = only f old new run is m held

pub run_leaves : (f : RosterFields Cmnd) (old new : List Message) (run : List Event) → IsRun f old run new
    → SameSet (λ m. Contains old m ⊎ IsAckedIn run m) (λ m. Contains new m)
run_leaves f old new run is = λ m. (stays f old new run is m, only f old new run is m)

half : (f : RosterFields Cmnd) (old s t : List Message) (r u : List Event) → ((m : Message) → IsAckedIn r m → IsAckedIn u m)
    → IsRun f old r s → IsRun f old u t → (m : Message) → Contains s m → Contains t m
half f old s t r u same first second m held =
    elim (only f old s r first m held) as (λ _. Contains t m) [
      | inl before ↦ stays f old t u second m (inl before)
      | inr acked ↦ stays f old t u second m (inr (same m acked))
    ]

pub runs_agree : (f : RosterFields Cmnd) (old s t : List Message) (r u : List Event) → SameAcked r u
    → IsRun f old r s → IsRun f old u t → SameMessages s t
runs_agree f old s t r u same first second = λ m.
    (half f old s t r u (λ n. (same n).0) first second m, half f old t s u r (λ n. (same n).1) second first m)

-- ---- deliveries as a run

pushed : (old : List Message) (m : Message) → IsWith (λ n. Contains old n) m (λ n. Contains (old ++ m ∷ []) n)
pushed old m = λ n. (
  λ h. elim h as (λ _. Contains (old ++ m ∷ []) n) [
    | inl before ↦ Contains-append_left old (m ∷ []) n before
    | inr equal ↦ let P : Message → Type 0 = λ x. Contains (old ++ m ∷ []) x in subst P (sym {A = Message} equal) (Contains-push old m)
  ],
  λ h. elim (Contains-push_cases old m n h) as (λ _. Contains old n ⊎ (n ≡ m)) [ inl before ↦ inl before | inr equal ↦ inr (sym {A = Message} equal) ],
)

-- a list of what is held once a delivery is answered
next : (f : RosterFields Cmnd) (old : List Message) (d : Delivery) (answer : Result Ack Refusal) → IsDeliveryAnswer f d answer
    → (held : List Message) × HeldAfter (λ m. Contains old m) d answer (λ m. Contains held m)
next f old d (Err e) is = (old, λ m. (λ h. elim h as (λ _. Contains old m) [ inl held ↦ held | inr acked ↦ let wrong = acked.2 in absurd cc ], λ h. inl h))
next f old d (Ok ack) is = elim is.sound as (λ _. (held : List Message) × HeldAfter (λ m. Contains old m) d (Ok ack) (λ m. Contains held m)) [
  | inl wanting ↦ absurd wanting
  | inr right ↦ elim right as (λ _. (held : List Message) × HeldAfter (λ m. Contains old m) d (Ok ack) (λ m. Contains held m)) [
    | inl unknown ↦ absurd (let wrong = unknown.1 in cc)
    | inr known ↦
        let m : Message = known.1.0 in
        (old ++ m ∷ [], held_at_ok (λ n. Contains old n) (λ n. Contains (old ++ m ∷ []) n) d ack m known.1.1 (pushed old m))
  ]
]

shifted : (old held new : List Message) (d : Delivery) (answer : Result Ack Refusal) (ds : List Delivery) (answers : List (Result Ack Refusal))
    → HeldAfter (λ m. Contains old m) d answer (λ m. Contains held m) → HeldAfterAll (λ m. Contains old m) (d ∷ ds) (answer ∷ answers) (λ m. Contains new m)
    → HeldAfterAll (λ m. Contains held m) ds answers (λ m. Contains new m)
shifted old held new d answer ds answers one all = λ m. (
  λ h. elim h as (λ _. Contains new m) [
    | inl now ↦ elim ((one m).1 now) as (λ _. Contains new m) [
      | inl before ↦ (all m).0 (inl before)
      | inr acked ↦ (all m).0 (inr (inl acked))
    ]
    | inr later ↦ (all m).0 (inr (inr later))
  ],
  λ h. elim ((all m).1 h) as (λ _. Contains held m ⊎ AcknowledgesAmong ds answers m) [
    | inl before ↦ inl ((one m).0 (inl before))
    | inr acked ↦ elim acked as (λ _. Contains held m ⊎ AcknowledgesAmong ds answers m) [
      | inl now ↦ inl ((one m).0 (inr now))
      | inr later ↦ inr later
    ]
  ],
)

none_left : (old new : List Message) → HeldAfterAll (λ m. Contains old m) [] [] (λ m. Contains new m) → SameMessages old new
none_left old new all = λ m. (λ h. (all m).0 (inl h), λ h. elim ((all m).1 h) as (λ _. Contains old m) [ inl held ↦ held | inr none ↦ absurd none ])

pub deliveries_run : (f : RosterFields Cmnd) (old new : List Message) (ds : List Delivery) (answers : List (Result Ack Refusal)) → AreAnswers f ds answers
    → HeldAfterAll (λ m. Contains old m) ds answers (λ m. Contains new m) → IsRun f old (run_of_deliveries ds answers) new
deliveries_run f old new [] [] are all = none_left old new all
deliveries_run f old new [] (a ∷ answers) are all = absurd are
deliveries_run f old new (d ∷ ds) [] are all = absurd are
deliveries_run f old new (d ∷ ds) (a ∷ answers) are all =
    let one = next f old d a are.0 in
    (one.0, are.0, one.1, deliveries_run f one.0 new ds answers are.1 (shifted old one.0 new d a ds answers one.1 all))
