-- One answer to a delivery, and what is held once one more delivery is answered.
use Rattle.std.proofs.Common.{◌≡◌, ℕ, ◌<◌, ◌⊎◌, List, [], ◌∷◌, ◌++◌, length, Result, Ok, Err, true, false, refl, sym, ap, ◌∙◌, subst, inl, inr, arith}
use Rattle.std.specs.Prelude.{IfOk, IsUtf8, OnOk}
use Rattle.messages.specs.Canonical.{IsCanonicalText}
use Rattle.messages.specs.private.Members.{value_of}
use Rattle.messages.specs.Wire.{wire, IsMessage}
use Rattle.messages.specs.declared.message.Message.{Message}
use Rattle.messages.proofs.Readings.{text_of_message}
use Rattle.messages.proofs.Uniqueness.{one_message}
use Rattle.sudo_words.specs.declared.cmnd.Cmnd.{Cmnd}
use Rattle.roster.specs.Fields.{RosterFields}
use Rattle.roster.specs.Rules.{is_among}
use Rattle.grants.specs.Admission.{Admits, IsDenial}
use Rattle.grants.specs.declared.denial.Denial.{Denial}
use Rattle.grants.proofs.Answering.{no_denial, one_denial}
use Rattle.store_tables.specs.Sets.{IsWith}
use Rattle.desk.specs.declared.ack.Ack.{Ack}
use Rattle.desk.specs.declared.refusal.Refusal.{Refusal}
use Rattle.desk.specs.declared.refusal.Refusal.TheVariants.{UnknownRelay, UnknownHost, TooLong, NotCanonical, BadField, Denied, TooManyRules}
use Rattle.desk.specs.declared.refusal.Refusal.TheVariants.{RosterChanged, NotADesk, OldSchema, Storage, NoMemory, BaseTooLarge}
use Rattle.desk.specs.Delivery.{Acknowledges, AcknowledgesAmong, Answers, AnswersBody, AreAnswers}
use Rattle.desk.specs.Delivery.{Delivery, HeldAfter, HeldAfterAll, IsDeliveryAnswer, IsBodyOf, WasWanting}

-- ---- one answer

too_long : (body : List ℕ) (m : Message) → IsBodyOf body m → 16_384 < length body → ⊥
too_long body m is long = omega (arith, long, is.short)

canonical_body : (body : List ℕ) (m : Message) → IsBodyOf body m → IsCanonicalText body
canonical_body body m is =
    let P : List ℕ → Type 0 = IsCanonicalText in
    subst P (sym is.text) (value_of m, text_of_message m is.message)

-- so it is UTF-8
pub utf8_body : (body : List ℕ) (m : Message) → IsBodyOf body m → IsUtf8 body
utf8_body body m is = (canonical_body body m is).1.utf8

pub same_body : (body : List ℕ) (m n : Message) → IsBodyOf body m → IsBodyOf body n → m ≡ n
same_body body m n x y = one_message m n x.message y.message (sym x.text ∙ y.text)

admitted_denied : (f : RosterFields Cmnd) (body : List ℕ) (m n : Message) (d : Denial) → IsBodyOf body m → IsBodyOf body n → Admits f m → IsDenial f n d → ⊥
admitted_denied f body m n d x y admits denial =
    let P : Message → Type 0 = Admits f in
    no_denial f n d (subst P (same_body body m n x y) admits) denial.applies

denials_agree : (f : RosterFields Cmnd) (body : List ℕ) (m n : Message) (d e : Denial)
    → IsBodyOf body m → IsBodyOf body n → IsDenial f m d → IsDenial f n e → d ≡ e
denials_agree f body m n d e x y first second =
    let P : Message → Type 0 = λ v. IsDenial f v d in
    one_denial f n d e (subst P (same_body body m n x y) first) second

one_body_answer : (f : RosterFields Cmnd) (body : List ℕ) (a b : Result Ack Refusal) → AnswersBody f body a → AnswersBody f body b → a ≡ b
one_body_answer f body (Err UnknownRelay) b x y = absurd x
one_body_answer f body (Err UnknownHost) b x y = absurd x
one_body_answer f body (Err TooManyRules) b x y = absurd x
one_body_answer f body (Err RosterChanged) b x y = absurd x
one_body_answer f body (Err NotADesk) b x y = absurd x
one_body_answer f body (Err OldSchema) b x y = absurd x
one_body_answer f body (Err Storage) b x y = absurd x
one_body_answer f body (Err NoMemory) b x y = absurd x
one_body_answer f body (Err BaseTooLarge) b x y = absurd x
one_body_answer f body a (Err UnknownRelay) x y = absurd y
one_body_answer f body a (Err UnknownHost) x y = absurd y
one_body_answer f body a (Err TooManyRules) x y = absurd y
one_body_answer f body a (Err RosterChanged) x y = absurd y
one_body_answer f body a (Err NotADesk) x y = absurd y
one_body_answer f body a (Err OldSchema) x y = absurd y
one_body_answer f body a (Err Storage) x y = absurd y
one_body_answer f body a (Err NoMemory) x y = absurd y
one_body_answer f body a (Err BaseTooLarge) x y = absurd y
one_body_answer f body (Ok p) (Ok q) x y = refl
one_body_answer f body (Ok p) (Err TooLong) x y = absurd (too_long body x.0 x.1 y)
one_body_answer f body (Ok p) (Err NotCanonical) x y = absurd (y.1 (canonical_body body x.0 x.1))
one_body_answer f body (Ok p) (Err BadField) x y = absurd (y.2 x.0 x.1.message x.1.text)
one_body_answer f body (Ok p) (Err (Denied e)) x y = absurd (admitted_denied f body x.0 y.0 e x.1 y.1 x.2 y.2)
one_body_answer f body (Err TooLong) (Ok q) x y = absurd (too_long body y.0 y.1 x)
one_body_answer f body (Err TooLong) (Err TooLong) x y = refl
one_body_answer f body (Err TooLong) (Err NotCanonical) x y = absurd (omega (arith, x, y.0))
one_body_answer f body (Err TooLong) (Err BadField) x y = absurd (omega (arith, x, y.0))
one_body_answer f body (Err TooLong) (Err (Denied e)) x y = absurd (too_long body y.0 y.1 x)
one_body_answer f body (Err NotCanonical) (Ok q) x y = absurd (x.1 (canonical_body body y.0 y.1))
one_body_answer f body (Err NotCanonical) (Err TooLong) x y = absurd (omega (arith, y, x.0))
one_body_answer f body (Err NotCanonical) (Err NotCanonical) x y = refl
one_body_answer f body (Err NotCanonical) (Err BadField) x y = absurd (x.1 y.1)
one_body_answer f body (Err NotCanonical) (Err (Denied e)) x y = absurd (x.1 (canonical_body body y.0 y.1))
one_body_answer f body (Err BadField) (Ok q) x y = absurd (x.2 y.0 y.1.message y.1.text)
one_body_answer f body (Err BadField) (Err TooLong) x y = absurd (omega (arith, y, x.0))
one_body_answer f body (Err BadField) (Err NotCanonical) x y = absurd (y.1 x.1)
one_body_answer f body (Err BadField) (Err BadField) x y = refl
one_body_answer f body (Err BadField) (Err (Denied e)) x y = absurd (x.2 y.0 y.1.message y.1.text)
one_body_answer f body (Err (Denied d)) (Ok q) x y = absurd (admitted_denied f body y.0 x.0 d y.1 x.1 y.2 x.2)
one_body_answer f body (Err (Denied d)) (Err TooLong) x y = absurd (too_long body x.0 x.1 y)
one_body_answer f body (Err (Denied d)) (Err NotCanonical) x y = absurd (y.1 (canonical_body body x.0 x.1))
one_body_answer f body (Err (Denied d)) (Err BadField) x y = absurd (y.2 x.0 x.1.message x.1.text)
one_body_answer f body (Err (Denied d)) (Err (Denied e)) x y = ap (λ (v : Denial). Err (Denied v)) (denials_agree f body x.0 y.0 d e x.1 y.1 x.2 y.2)

pub one_answer : (f : RosterFields Cmnd) (d : Delivery) (a b : Result Ack Refusal) → Answers f d a → Answers f d b → a ≡ b
one_answer f d a b (inl x) (inl y) = x.1 ∙ sym y.1
one_answer f d a b (inl x) (inr y) = let wrong : false ≡ true = sym x.0 ∙ y.0 in absurd cc
one_answer f d a b (inr x) (inl y) = let wrong : false ≡ true = sym y.0 ∙ x.0 in absurd cc
one_answer f d a b (inr x) (inr y) = one_body_answer f d.body a b x.1 y.1

pub answer_from_sound : (f : RosterFields Cmnd) (d : Delivery) (a : Result Ack Refusal) → (WasWanting a ⊎ Answers f d a) → IsDeliveryAnswer f d a
answer_from_sound f d a sound = record {
  sound = sound;
  complete = λ right is.
      elim sound as (λ _. WasWanting a ⊎ (a ≡ right)) [ inl wanting ↦ inl wanting | inr right_too ↦ inr (one_answer f d a right right_too is) ];
}

-- a body of a known relay that is refused before anything is kept
pub refused : (f : RosterFields Cmnd) (d : Delivery) (e : Refusal) → is_among f.relays d.relay ≡ true
    → (e ≡ NoMemory) ⊎ AnswersBody f d.body (Err e) → IsDeliveryAnswer f d (Err e)
refused f d e known (inl memory) = answer_from_sound f d (Err e) (inl (inl memory))
refused f d e known (inr right) = answer_from_sound f d (Err e) (inr (inr (known, right)))

pub acknowledged : (f : RosterFields Cmnd) (d : Delivery) (ack : Ack) (m : Message)
    → is_among f.relays d.relay ≡ true → IsBodyOf d.body m → Admits f m → IsDeliveryAnswer f d (Ok ack)
acknowledged f d ack m known body admits = answer_from_sound f d (Ok ack) (inr (inr (known, (m, body, admits))))

-- ---- the set

-- what holds of a call that ended well
pub at_ok : {A E P : Type 0} {r : Result A E} {a : A} → r ≡ Ok a → OnOk r P → P
at_ok {P = P} is holds = subst (λ r. OnOk r P) is holds

pub of_ok : {A E : Type 0} (P : A → Type 0) {r : Result A E} {a : A} → r ≡ Ok a → IfOk r P → P a
of_ok P is holds = subst (λ r. IfOk r P) is holds

pub held_at_ok : (S T : Message → Type 0) (d : Delivery) (ack : Ack) (m : Message) → IsBodyOf d.body m → IsWith S m T → HeldAfter S d (Ok ack) T
held_at_ok S T d ack m body is = λ n. (
  λ held. elim held as (λ _. T n) [
    | inl before ↦ (is n).0 (inl before)
    | inr acked ↦ (is n).0 (inr (one_message n m acked.0 body.message (sym acked.1 ∙ body.text)))
  ],
  λ held. elim ((is n).1 held) as (λ _. S n ⊎ Acknowledges d (Ok ack) n) [
    | inl before ↦ inl before
    | inr equal ↦
        let P : Message → Type 0 = IsMessage in
        inr (subst P (sym equal) body.message, body.text ∙ ap wire (sym equal), refl)
  ],
)

-- ---- many deliveries

pub answers_push : (f : RosterFields Cmnd) (ds : List Delivery) (answers : List (Result Ack Refusal)) (d : Delivery) (a : Result Ack Refusal)
    → AreAnswers f ds answers → IsDeliveryAnswer f d a → AreAnswers f (ds ++ d ∷ []) (answers ++ a ∷ [])
answers_push f [] [] d a all is = (is, tt)
answers_push f [] (b ∷ answers) d a all is = absurd all
answers_push f (e ∷ ds) [] d a all is = absurd all
answers_push f (e ∷ ds) (b ∷ answers) d a all is = (all.0, answers_push f ds answers d a all.1 is)

pub among_before : (m : Message) (ds : List Delivery) (answers : List (Result Ack Refusal)) (d : Delivery) (a : Result Ack Refusal)
    → AcknowledgesAmong ds answers m → AcknowledgesAmong (ds ++ d ∷ []) (answers ++ a ∷ []) m
among_before m [] answers d a h = absurd h
among_before m (e ∷ ds) [] d a h = absurd h
among_before m (e ∷ ds) (b ∷ answers) d a (inl here) = inl here
among_before m (e ∷ ds) (b ∷ answers) d a (inr later) = inr (among_before m ds answers d a later)

pub among_last : (f : RosterFields Cmnd) (m : Message) (ds : List Delivery) (answers : List (Result Ack Refusal)) (d : Delivery) (a : Result Ack Refusal)
    → AreAnswers f ds answers → Acknowledges d a m → AcknowledgesAmong (ds ++ d ∷ []) (answers ++ a ∷ []) m
among_last f m [] [] d a all h = inl h
among_last f m [] (b ∷ answers) d a all h = absurd all
among_last f m (e ∷ ds) [] d a all h = absurd all
among_last f m (e ∷ ds) (b ∷ answers) d a all h = inr (among_last f m ds answers d a all.1 h)

pub among_cases : (f : RosterFields Cmnd) (m : Message) (ds : List Delivery) (answers : List (Result Ack Refusal)) (d : Delivery) (a : Result Ack Refusal)
    → AreAnswers f ds answers → AcknowledgesAmong (ds ++ d ∷ []) (answers ++ a ∷ []) m → AcknowledgesAmong ds answers m ⊎ Acknowledges d a m
among_cases f m [] [] d a all (inl here) = inr here
among_cases f m [] [] d a all (inr none) = absurd none
among_cases f m [] (b ∷ answers) d a all h = absurd all
among_cases f m (e ∷ ds) [] d a all h = absurd all
among_cases f m (e ∷ ds) (b ∷ answers) d a all (inl here) = inl (inl here)
among_cases f m (e ∷ ds) (b ∷ answers) d a all (inr later) =
    elim (among_cases f m ds answers d a all.1 later)
    as (λ _. AcknowledgesAmong (e ∷ ds) (b ∷ answers) m ⊎ Acknowledges d a m) [ inl before ↦ inl (inr before) | inr last ↦ inr last ]

pub held_by_none : (S : Message → Type 0) → HeldAfterAll S [] [] S
held_by_none S = λ m. (λ h. elim h as (λ _. S m) [ inl held ↦ held | inr none ↦ absurd none ], λ h. inl h)

pub held_push : (f : RosterFields Cmnd) (S T U : Message
    → Type 0) (ds : List Delivery) (answers : List (Result Ack Refusal)) (d : Delivery) (a : Result Ack Refusal) → AreAnswers f ds answers
    → HeldAfterAll S ds answers T → HeldAfter T d a U → HeldAfterAll S (ds ++ d ∷ []) (answers ++ a ∷ []) U
held_push f S T U ds answers d a all before last = λ m. (
  λ h. elim h as (λ _. U m) [
    | inl held ↦ (last m).0 (inl ((before m).0 (inl held)))
    | inr acked ↦ elim (among_cases f m ds answers d a all acked) as (λ _. U m) [
      | inl sooner ↦ (last m).0 (inl ((before m).0 (inr sooner)))
      | inr now ↦ (last m).0 (inr now)
    ]
  ],
  λ h. elim ((last m).1 h) as (λ _. S m ⊎ AcknowledgesAmong (ds ++ d ∷ []) (answers ++ a ∷ []) m) [
    | inl sooner ↦ elim ((before m).1 sooner) as (λ _. S m ⊎ AcknowledgesAmong (ds ++ d ∷ []) (answers ++ a ∷ []) m) [
      | inl held ↦ inl held
      | inr acked ↦ inr (among_before m ds answers d a acked)
    ]
    | inr now ↦ inr (among_last f m ds answers d a all now)
  ],
)
