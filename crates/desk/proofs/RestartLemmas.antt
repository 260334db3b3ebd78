-- Desks that hold the same set of messages answer alike.
use Rattle.std.proofs.Common.{◌≡◌, ◌≢◌, ◌⊎◌, ◌∙◌, inl, inr, ℕ, List, Result, Ok, Err, refl, sym, subst}
use Rattle.std.specs.Prelude.{IfOk, IfErr, MatchResult}
use Rattle.sudo_words.specs.declared.cmnd.Cmnd.{Cmnd}
use Rattle.messages.specs.Names.{SameMessages}
use Rattle.messages.specs.declared.message.Message.{Message}
use Rattle.roster.specs.Fields.{RosterFields}
use Rattle.store_tables.specs.Sets.{Lists, SameSet}
use Rattle.store_schema.specs.Beside.{TableWithRows}
use Rattle.desk_store.specs.Serving.{IsServed}
use Rattle.desk.specs.Opening.{Opens, Refuses}
use Rattle.desk.specs.Refusals.{IsWant}
use Rattle.desk.specs.Same.{AnswerAlike}
use Rattle.desk.specs.State.{DeskState}
use Rattle.desk.specs.declared.refusal.Refusal.{Refusal}
use Rattle.desk.specs.declared.refusal.Refusal.TheVariants.{UnknownRelay, UnknownHost, TooLong, NotCanonical, BadField, Denied, TooManyRules}
use Rattle.desk.specs.declared.refusal.Refusal.TheVariants.{RosterChanged, NotADesk, OldSchema, Storage, NoMemory, BaseTooLarge}
use Rattle.outcomes.proofs.LawLemmas.{order_free}
use Rattle.outcomes.proofs.SetLemmas.{parked_of_set}
use Rattle.desk.proofs.TextLemmas.{texts_of_set}

listed : (S T : Message → Type 0) → SameSet S T → (s t : List Message) → Lists S s → Lists T t → SameMessages s t
listed S T same s t x y m = (λ c. (y m).0 ((same m).0 ((x m).1 c)), λ c. (x m).0 ((same m).1 ((y m).1 c)))

back : (S T : Message → Type 0) → SameSet S T → (s t : List Message) → Lists S s → Lists T t → SameMessages t s
back S T same s t x y m = (λ c. (x m).0 ((same m).1 ((y m).1 c)), λ c. (y m).0 ((same m).0 ((x m).1 c)))

pub same_answers : (f : RosterFields Cmnd) (S T : Message → Type 0) → SameSet S T → AnswerAlike f S T
same_answers f S T same = record {
  grants = λ s t x y. order_free f s t (listed S T same s t x y);
  texts = λ s t texts x y. (λ are. texts_of_set s t texts (listed S T same s t x y) are, λ are. texts_of_set t s texts (back S T same s t x y) are);
  parked = λ s t texts x y. (λ are. parked_of_set s t texts (listed S T same s t x y) are, λ are. parked_of_set t s texts (back S T same s t x y) are);
}

-- a desk that is opened over what a desk held, holds that
pub held_again : (Empty Desk Old : Type 0) (recorded text : List ℕ) (S T U : Message → Type 0)
    → Desk → SameSet S T → Opens Empty Desk Old recorded text T U → SameSet S U
held_again Empty Desk Old recorded text S T U desk same (inl none) = absurd (none.1 desk)
held_again Empty Desk Old recorded text S T U desk same (inr found) = λ m. (λ h. (found.4 m).0 ((same m).0 h), λ h. (same m).1 ((found.4 m).1 h))

-- and has the roster's text that was recorded
pub recorded_text : (Empty Desk Old : Type 0) (recorded text : List ℕ) (S T : Message → Type 0)
    → Desk → Opens Empty Desk Old recorded text S T → recorded ≡ text
recorded_text Empty Desk Old recorded text S T desk (inl none) = absurd (none.1 desk)
recorded_text Empty Desk Old recorded text S T desk (inr found) = found.3

-- and a refusal, if one comes, is for the base or for the roster, since what was recorded is a desk
pub refused_again : (Fits Empty Desk Old : Type 0) (recorded said text : List ℕ) (e : Refusal) → Desk → said ≡ recorded
    → IsWant e ⊎ Refuses Fits Empty Desk Old recorded text e
    → IsWant e ⊎ ((e ≡ BaseTooLarge) × (¬ Fits)) ⊎ ((e ≡ RosterChanged) × (said ≢ text))
refused_again Fits Empty Desk Old recorded said text e desk same (inl want) = inl want
refused_again Fits Empty Desk Old recorded said text BaseTooLarge desk same (inr large) = inr (inl (refl, large))
refused_again Fits Empty Desk Old recorded said text RosterChanged desk same (inr why) = inr (inr (refl, λ is. why.2 (sym same ∙ is)))
refused_again Fits Empty Desk Old recorded said text NotADesk desk same (inr why) = absurd (why.2 desk)
refused_again Fits Empty Desk Old recorded said text OldSchema desk same (inr why) = absurd (why.2 desk)
refused_again Fits Empty Desk Old recorded said text UnknownRelay desk same (inr none) = absurd none
refused_again Fits Empty Desk Old recorded said text UnknownHost desk same (inr none) = absurd none
refused_again Fits Empty Desk Old recorded said text TooLong desk same (inr none) = absurd none
refused_again Fits Empty Desk Old recorded said text NotCanonical desk same (inr none) = absurd none
refused_again Fits Empty Desk Old recorded said text BadField desk same (inr none) = absurd none
refused_again Fits Empty Desk Old recorded said text (Denied denial) desk same (inr none) = absurd none
refused_again Fits Empty Desk Old recorded said text TooManyRules desk same (inr none) = absurd none
refused_again Fits Empty Desk Old recorded said text Storage desk same (inr none) = absurd none
refused_again Fits Empty Desk Old recorded said text NoMemory desk same (inr none) = absurd none

-- the set of a thing is the set of an equal thing
pub set_of_same : {A : Type 0} (a b : A) → a ≡ b → (H : A → Message → Type 0) (T : Message → Type 0) → SameSet (H a) T → SameSet (H b) T
set_of_same a b same H T set = subst (λ x. SameSet (H x) T) same set

-- what follows from what an opening promises of a desk
pub of_opened : {A E : Type 0} (r : Result A E) (P Q R : A → Type 0) (F : E → Type 0) → ((a : A) → P a → Q a → R a) → IfOk r P → MatchResult r Q F → IfOk r R
of_opened (Ok a) P Q R F each p q = each a p q
of_opened (Err e) P Q R F each p q = tt

pub of_ok : {A E : Type 0} (r : Result A E) (P R : A → Type 0) → ((a : A) → P a → R a) → IfOk r P → IfOk r R
of_ok (Ok a) P R each p = each a p
of_ok (Err e) P R each p = tt

-- and from what it promises after a refusal
pub of_refused : {A E : Type 0} (r : Result A E) (P Q R : E → Type 0) (F : A → Type 0) → ((e : E) → P e → Q e → R e) → IfErr r P → MatchResult r F Q → IfErr r R
of_refused (Ok a) P Q R F each p q = tt
of_refused (Err e) P Q R F each p q = each e p q

pub of_err : {A E : Type 0} (r : Result A E) (P R : E → Type 0) → ((e : E) → P e → R e) → IfErr r P → IfErr r R
of_err (Ok a) P R each p = tt
of_err (Err e) P R each p = each e p

pub of_both : {A E : Type 0} (r : Result A E) (P Q R : A → Type 0) → ((a : A) → P a → Q a → R a) → IfOk r P → IfOk r Q → IfOk r R
of_both (Ok a) P Q R each p q = each a p q
of_both (Err e) P Q R each p q = tt

-- the keeper that was handed in was up, if the one that comes back is
pub was_up_of : {K : Type 0} (is_up is_clean : K → Type 0) (failures : K → ℕ) (beside : K → TableWithRows
    → Type 0) (k : K) (r : Result (DeskState K) (Refusal × K)) → MatchResult r (λ d. IsServed is_up is_clean failures beside k d.keeper ⊥ ⊥)
    (λ x. IsServed is_up is_clean failures beside k x.1 (x.0 ≡ Storage) (IsWant x.0)) → MatchResult r (λ d. is_up d.keeper → is_up k) (λ x. is_up x.1 → is_up k)
was_up_of is_up is_clean failures beside k (Ok d) served = served.was_up
was_up_of is_up is_clean failures beside k (Err x) served = served.was_up
