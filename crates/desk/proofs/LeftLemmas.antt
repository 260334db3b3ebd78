-- What a crash leaves after calls, one after the other, also where the keeper is not up.
use Rattle.std.proofs.Common.{◌≡◌, ◌⊎◌, inl, inr, List, ℕ, [], ◌∷◌, ◌++◌, Option, Some, None, Result, Ok, Err, refl, sym, subst, ◌∙◌}
use Rattle.std.specs.Prelude.{IfErr, MatchResult, IsErrAnd, IsOk, OnErr, OnOk}
use Rattle.std.proofs.lemmas.List.Elements.{Contains-append_left, Contains-push}
use Rattle.sudo_words.specs.declared.cmnd.Cmnd.{Cmnd}
use Rattle.messages.specs.declared.message.Message.{Message}
use Rattle.roster.specs.Fields.{RosterFields}
use Rattle.store_tables.specs.Sets.{SameSet, With}
use Rattle.desk_store.specs.Keeping.{FindsSomeDesk}
use Rattle.desk_store.specs.Left.{Left, AddsOnly, IsDeskOf, LeavesOnly}
use Rattle.desk_store.specs.declared.keeper.Keeper.{Ghosts}
use Rattle.desk_store.specs.declared.error.KeeperError.{KeeperError}
use Rattle.desk_store.specs.declared.error.KeeperError.TheVariants as errors
use Rattle.desk_store.specs.declared.found.Found.{Found}
use Rattle.desk_store.specs.declared.found.FoundDesk.{FoundDesk}
use Rattle.desk_store.specs.declared.found.Found.TheVariants as found
use Rattle.desk_store.proofs.SameLeft.{same_left}
use Rattle.desk.specs.Crash.{IsAcceptable, IsAddedByDelivery, IsLeftByDeliveries}
use Rattle.desk.specs.Delivery.{AcknowledgesAmong, Answers, AreAnswers, Delivery, HeldAfterAll, IsBodyOf, IsDeliveryAnswer, WasWanting, WasWantingAmong}
use Rattle.desk.specs.Refusals.{IsWant, refusal_of_error}
use Rattle.desk.specs.declared.ack.Ack.{Ack}
use Rattle.desk.specs.declared.refusal.Refusal.{Refusal}
use Rattle.desk.specs.declared.refusal.Refusal.TheVariants.{UnknownHost}
use Rattle.desk.specs.Serving.{KeepsSettings, OnlyAsks, ServesAnswer}
use Rattle.desk.specs.State.{DeskState}
use Rattle.desk.specs.declared.loading.Known.{Known}
use Rattle.desk.specs.private.Known.{IsKnownOfUp}
use Rattle.desk.proofs.DeliveryLemmas.{among_before, among_cases, among_last}
use Rattle.desk.proofs.FailureLemmas.{wanting_before, wanting_now}

-- ---- whether the keeper is up

-- nothing was delivered
pub left_by_none : (f : RosterFields Cmnd) (roster : List ℕ) (S : Message → Type 0) (answers : List (Result Ack Refusal)) (left : Left)
    → IsDeskOf roster S left → IsLeftByDeliveries f roster S [] answers left
left_by_none f roster S answers left is =
    inl (same_left roster roster (λ m. S m ⊎ AcknowledgesAmong [] answers m) S left refl (λ m. (
      λ h. elim h as (λ _. S m) [ inl held ↦ held | inr none ↦ absurd none ],
      λ h. inl h,
    )) is)

-- a refusal, or what holds anyway
pub if_err : {A : Type 0} (r : Result A Refusal) (P : Type 0) (Q : Refusal → Type 0) → P → IfErr r (λ e. Q e ⊎ P)
if_err (Ok x) P Q p = tt
if_err (Err e) P Q p = inr p

-- a keeper's error is a want
pub told_live : {A : Type 0} (error : KeeperError) (r : Result A Refusal) (P : Type 0) (Q : Refusal → Type 0)
    → IsErrAnd r (λ e. e ≡ refusal_of_error error) → MatchResult r (λ _. P) (λ e. IsWant e ⊎ Q e)
told_live errors.Storage (Ok x) P Q is = absurd is
told_live errors.NoMemory (Ok x) P Q is = absurd is
told_live errors.Storage (Err e) P Q is = inl (inr is)
told_live errors.NoMemory (Err e) P Q is = inl (inl is)

pub is_desk : (f : Found) (desk : FoundDesk) → f ≡ found.Desk desk → FindsSomeDesk f
is_desk f desk is = subst FindsSomeDesk (sym is) tt

pub is_old_desk : (f : Found) → f ≡ found.OldDesk → FindsSomeDesk f
is_old_desk f is = subst FindsSomeDesk (sym is) tt

pub known_of_up : (Clean Up : Type 0) (o : Option Known) → (Clean → Up) → IsKnownOfUp Clean Up o
known_of_up Clean Up None live = tt
known_of_up Clean Up (Some g) live = live

-- ---- calls one after the other

pub adds_none : (A B P : Left → Type 0) → AddsOnly A B (λ _. ⊥) → AddsOnly A B P
adds_none A B P one left may = elim (one left may) as (λ _. A left ⊎ P left) [ inl before ↦ inl before | inr none ↦ absurd none ]

pub adds_as : (A B P Q : Left → Type 0) → ((left : Left) → P left → Q left) → AddsOnly A B P → AddsOnly A B Q
adds_as A B P Q each one left may = elim (one left may) as (λ _. A left ⊎ Q left) [ inl before ↦ inl before | inr new ↦ inr (each left new) ]

-- the first of two commits nothing
pub none_then_adds : (A B C P : Left → Type 0) → AddsOnly A B (λ _. ⊥) → AddsOnly B C P → AddsOnly A C P
none_then_adds A B C P one two left may = elim (two left may) as (λ _. A left ⊎ P left) [
  | inl mid ↦ adds_none A B P one left mid
  | inr new ↦ inr new
]

-- ---- many deliveries, once one more is answered

module _ (f : RosterFields Cmnd) (roster : List ℕ) (S : Message
    → Type 0) (ds : List Delivery) (answers : List (Result Ack Refusal)) (d : Delivery) (all : AreAnswers f ds answers) where
  abbrev Before : Message → Type 0
  Before m = S m ⊎ AcknowledgesAmong ds answers m

  abbrev After : Result Ack Refusal → Message → Type 0
  After a m = S m ⊎ AcknowledgesAmong (ds ++ d ∷ []) (answers ++ a ∷ []) m

  -- a refusal acknowledges nothing
  refused_same : (e : Refusal) → SameSet (After (Err e)) Before
  refused_same e m = (
    λ h. elim h as (λ _. Before m) [
      | inl held ↦ inl held
      | inr acked ↦ elim (among_cases f m ds answers d (Err e) all acked) as (λ _. Before m) [
        | inl sooner ↦ inr sooner
        | inr now ↦ let wrong = now.2 in absurd cc
      ]
    ],
    λ h. elim h as (λ _. After (Err e) m) [ inl held ↦ inl held | inr acked ↦ inr (among_before m ds answers d (Err e) acked) ],
  )

  with_same : (P Q : Message → Type 0) (m : Message) → SameSet P Q → SameSet (With P m) (With Q m)
  with_same P Q m same n = (
    λ h. elim h as (λ _. With Q m n) [ inl held ↦ inl ((same n).0 held) | inr is ↦ inr is ],
    λ h. elim h as (λ _. With P m n) [ inl held ↦ inl ((same n).1 held) | inr is ↦ inr is ],
  )

  same_then : (P Q R : Message → Type 0) → SameSet P Q → SameSet Q R → SameSet P R
  same_then P Q R one two n = (λ h. (two n).0 ((one n).0 h), λ h. (one n).1 ((two n).1 h))

  abbrev LeftBefore : Left → Type 0
  LeftBefore = IsLeftByDeliveries f roster S ds answers

  abbrev LeftAfter : Result Ack Refusal → Left → Type 0
  LeftAfter a = IsLeftByDeliveries f roster S (ds ++ d ∷ []) (answers ++ a ∷ [])

  -- what was left before a refusal
  still_left : (e : Refusal) (left : Left) → LeftBefore left → LeftAfter (Err e) left
  still_left e left (inl is) = inl (same_left roster roster (After (Err e)) Before left refl (refused_same e) is)
  still_left e left (inr it) = inr (
    it.0,
    Contains-append_left ds (d ∷ []) it.0 it.1,
    it.2,
    it.3,
    same_left roster roster (With (After (Err e)) it.2) (With Before it.2) left refl (with_same (After (Err e)) Before it.2 (refused_same e)) it.4,
  )

  -- what a refused delivery may have added
  added_left : (T : Message → Type 0) (e : Refusal) (left : Left) (m : Message) → HeldAfterAll S ds answers T
      → IsAcceptable f d m → IsDeskOf roster (With T m) left → LeftAfter (Err e) left
  added_left T e left m held accepted is = inr (
    d,
    Contains-push ds d,
    m,
    accepted,
    same_left roster roster (With (After (Err e)) m) (With T m) left refl
        (with_same (After (Err e)) T m (same_then (After (Err e)) Before T (refused_same e) held)) is,
  )

  -- if the desk held all that was acknowledged
  pub repeated_push : (Same01 Same12 Same02 : Type 0) → (Same01 → Same12 → Same02) → (T : Message → Type 0) (a : Result Ack Refusal)
      → IsDeliveryAnswer f d a → HeldAfterAll S ds answers T → (((m : Message) → AcknowledgesAmong ds answers m → S m) → Same01)
      → ((m : Message) → IsBodyOf d.body m → T m → OnOk a Same12) → OnErr a Same12
      → ((m : Message) → AcknowledgesAmong (ds ++ d ∷ []) (answers ++ a ∷ []) m → S m) → Same02
  repeated_push Same01 Same12 Same02 join T (Err e) is held first again unchanged acked =
      join (first (λ m sooner. acked m (among_before m ds answers d (Err e) sooner))) unchanged
  repeated_push Same01 Same12 Same02 join T (Ok ack) is held first again unchanged acked =
      let there = body_of is.sound in
      let m = there.0 in
      let body = there.1 in
      let known = acked m (among_last f m ds answers d (Ok ack) all (body.message, body.text, refl)) in
      join (first (λ n sooner. acked n (among_before n ds answers d (Ok ack) sooner))) (again m body ((held m).0 (inl known)))
    where
      body_of : WasWanting (Ok ack) ⊎ Answers f d (Ok ack) → (m : Message) × IsBodyOf d.body m
      body_of (inl none) = absurd none
      body_of (inr (inl unknown)) = let wrong = unknown.1 in absurd cc
      body_of (inr (inr it)) = (it.1.0, it.1.1)

  -- whoever acknowledged over an honest disk was up
  pub live_push : (Up1 Up2 : Type 0) (a : Result Ack Refusal) → ((m : Message) → AcknowledgesAmong ds answers m → WasWantingAmong answers ⊎ Up1)
      → (Up1 → IsErrAnd a IsWant ⊎ Up2) → OnOk a Up2 → (m : Message)
      → AcknowledgesAmong (ds ++ d ∷ []) (answers ++ a ∷ []) m → WasWantingAmong (answers ++ a ∷ []) ⊎ Up2
  live_push Up1 Up2 a before then' live m acked = elim (among_cases f m ds answers d a all acked) as (λ _. WasWantingAmong (answers ++ a ∷ []) ⊎ Up2) [
    | inl sooner ↦ elim (before m sooner) as (λ _. WasWantingAmong (answers ++ a ∷ []) ⊎ Up2) [
      | inl want ↦ inl (wanting_before answers a want)
      | inr up ↦ elim (then' up) as (λ _. WasWantingAmong (answers ++ a ∷ []) ⊎ Up2) [ inl now ↦ inl (wanting_now answers a now) | inr still ↦ inr still ]
    ]
    | inr now ↦ inr (on_ok a now.2 live)
  ]
    where
      on_ok : (a : Result Ack Refusal) → IsOk a → OnOk a Up2 → Up2
      on_ok (Ok ack) is up = up
      on_ok (Err e) is up = absurd cc

  -- the next delivery is answered
  module _ (T U : Message → Type 0) (First Mid Last : Left → Type 0) (Up0 Up1 Up2 : Type 0) (held : Up1
      → HeldAfterAll S ds answers T) (adds : AddsOnly Mid Last (IsAddedByDelivery Up1 f roster T d)) (durable : Up2 → LeavesOnly Last (IsDeskOf roster U)) where
    pub crash_push : (a : Result Ack Refusal) → OnOk a Up2 → (Up2 → HeldAfterAll S (ds ++ d ∷ []) (answers ++ a ∷ []) U)
        → LeavesOnly Mid LeftBefore → LeavesOnly Last (LeftAfter a)
    crash_push (Ok ack) live after before left may = inl (same_left roster roster (After (Ok ack)) U left refl (after live) (durable live left may))
    crash_push (Err e) live after before left may = elim (adds left may) as (λ _. LeftAfter (Err e) left) [
      | inl mid ↦ still_left e left (before left mid)
      | inr it ↦ added_left T e left it.0 (held it.2.0) it.1 it.2.1
    ]

    pub leaves_push : (a : Result Ack Refusal) → OnOk a Up2 → (Up2 → HeldAfterAll S (ds ++ d ∷ []) (answers ++ a ∷ []) U)
        → (Up1 → Up0) → (Up2 → Up0) → AddsOnly First Mid (λ left. Up0 × LeftBefore left) → AddsOnly First Last (λ left. Up0 × LeftAfter a left)
    leaves_push (Ok ack) live after mid_up last_up before left may =
        inr (last_up live, inl (same_left roster roster (After (Ok ack)) U left refl (after live) (durable live left may)))
    leaves_push (Err e) live after mid_up last_up before left may = elim (adds left may) as (λ _. First left ⊎ (Up0 × LeftAfter (Err e) left)) [
      | inl mid ↦ elim (before left mid) as (λ _. First left ⊎ (Up0 × LeftAfter (Err e) left)) [
        | inl first ↦ inl first
        | inr it ↦ inr (it.0, still_left e left it.1)
      ]
      | inr it ↦ inr (mid_up it.2.0, added_left T e left it.0 (held it.2.0) it.1 it.2.1)
    ]

-- ---- questions

-- what stays over each of two calls stays over both
pub settings_both : {K : Type 0} (a b c : DeskState K) → KeepsSettings a b → KeepsSettings b c → KeepsSettings a c
settings_both a b c first second = record {
  roster = second.roster ∙ first.roster;
  base = second.base ∙ first.base;
  history = second.history ∙ first.history;
}

-- a want is told
pub asks_want : {K A : Type 0} (g : Ghosts K) (a b : DeskState K) (r : Result A Refusal) → IsErrAnd r IsWant
    → KeepsSettings a b → (g.is_up b.keeper → g.is_same a.keeper b.keeper) → ServesAnswer g a.keeper b.keeper r
    → (g.is_clean b.keeper → AddsOnly (g.may_leave a.keeper) (g.may_leave b.keeper) (λ _. ⊥)) → OnlyAsks g a b r
asks_want {K} {A} g a b r want settings unchanged served leaves =
    record { settings = settings; unchanged = unchanged; served = served; live = λ clean. go r want; leaves = leaves }
  where
    go : (r : Result A Refusal) → IsErrAnd r IsWant → MatchResult r (λ _. g.is_up b.keeper) (λ e. IsWant e ⊎ (e ≡ UnknownHost) ⊎ g.is_up b.keeper)
    go (Ok x) is = absurd is
    go (Err e) is = inl is
