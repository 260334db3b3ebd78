-- What comes of a keeper that is rebuilt.
use Rattle.std.proofs.Common.{◌≡◌, ◌≢◌, ◌⊎◌, inl, inr, refl}
use Rattle.std.specs.Prelude.{⊤}
use Rattle.messages.specs.declared.message.Message.{Message}
use Rattle.store_tables.specs.Sets.{SameSet}
use Rattle.desk.specs.Rebuilding.{Rebuilds, RefusesToRebuild}
use Rattle.desk.specs.Refusals.{IsWant}
use Rattle.desk.specs.declared.refusal.Refusal.{Refusal}
use Rattle.desk.specs.declared.refusal.Refusal.TheVariants.{UnknownRelay, UnknownHost, TooLong, NotCanonical, BadField, Denied, TooManyRules}
use Rattle.desk.specs.declared.refusal.Refusal.TheVariants.{RosterChanged, NotADesk, OldSchema, Storage, NoMemory, BaseTooLarge}

pub same_sets : (S T U : Message → Type 0) → SameSet S T → SameSet T U → SameSet S U
same_sets S T U first second = λ m. (λ h. (second m).0 ((first m).0 h), λ h. (first m).1 ((second m).1 h))

-- the reason why nothing is rebuilt is also the reason over a base that fits
pub not_rebuilt_over : (Fits Empty Desk Old : Type 0) (e : Refusal) → Fits → e ≢ BaseTooLarge
    → IsWant e ⊎ RefusesToRebuild ⊤ Empty Desk Old e → IsWant e ⊎ RefusesToRebuild Fits Empty Desk Old e
not_rebuilt_over Fits Empty Desk Old e fits large (inl want) = inl want
not_rebuilt_over Fits Empty Desk Old BaseTooLarge fits large (inr why) = absurd (large refl)
not_rebuilt_over Fits Empty Desk Old NotADesk fits large (inr why) = inr (fits, why.1, why.2, why.3)
not_rebuilt_over Fits Empty Desk Old RosterChanged fits large (inr none) = absurd none
not_rebuilt_over Fits Empty Desk Old OldSchema fits large (inr none) = absurd none
not_rebuilt_over Fits Empty Desk Old UnknownRelay fits large (inr none) = absurd none
not_rebuilt_over Fits Empty Desk Old UnknownHost fits large (inr none) = absurd none
not_rebuilt_over Fits Empty Desk Old TooLong fits large (inr none) = absurd none
not_rebuilt_over Fits Empty Desk Old NotCanonical fits large (inr none) = absurd none
not_rebuilt_over Fits Empty Desk Old BadField fits large (inr none) = absurd none
not_rebuilt_over Fits Empty Desk Old (Denied denial) fits large (inr none) = absurd none
not_rebuilt_over Fits Empty Desk Old TooManyRules fits large (inr none) = absurd none
not_rebuilt_over Fits Empty Desk Old Storage fits large (inr none) = absurd none
not_rebuilt_over Fits Empty Desk Old NoMemory fits large (inr none) = absurd none

-- rebuilding a desk is refused only for a base past the limits, or for want
pub not_rebuilt_again : (Fits Empty Desk Old : Type 0) (e : Refusal) → Desk
    → IsWant e ⊎ RefusesToRebuild Fits Empty Desk Old e → IsWant e ⊎ ((e ≡ BaseTooLarge) × (¬ Fits))
not_rebuilt_again Fits Empty Desk Old e desk (inl want) = inl want
not_rebuilt_again Fits Empty Desk Old BaseTooLarge desk (inr large) = inr (refl, large)
not_rebuilt_again Fits Empty Desk Old NotADesk desk (inr why) = absurd (why.2 desk)
not_rebuilt_again Fits Empty Desk Old RosterChanged desk (inr none) = absurd none
not_rebuilt_again Fits Empty Desk Old OldSchema desk (inr none) = absurd none
not_rebuilt_again Fits Empty Desk Old UnknownRelay desk (inr none) = absurd none
not_rebuilt_again Fits Empty Desk Old UnknownHost desk (inr none) = absurd none
not_rebuilt_again Fits Empty Desk Old TooLong desk (inr none) = absurd none
not_rebuilt_again Fits Empty Desk Old NotCanonical desk (inr none) = absurd none
not_rebuilt_again Fits Empty Desk Old BadField desk (inr none) = absurd none
not_rebuilt_again Fits Empty Desk Old (Denied denial) desk (inr none) = absurd none
not_rebuilt_again Fits Empty Desk Old TooManyRules desk (inr none) = absurd none
not_rebuilt_again Fits Empty Desk Old Storage desk (inr none) = absurd none
not_rebuilt_again Fits Empty Desk Old NoMemory desk (inr none) = absurd none

-- a desk that is rebuilt over what a desk held, holds that
pub rebuilt_again : (Empty Desk Old : Type 0) (S T U : Message → Type 0) → Desk → SameSet S T → Rebuilds Empty Desk Old T U → SameSet S U
rebuilt_again Empty Desk Old S T U desk same (inl none) = absurd (none.1 desk)
rebuilt_again Empty Desk Old S T U desk same (inr found) = same_sets S T U same found.2

-- two rebuildings, one after the other, come to what one rebuilding comes to
pub rebuilt_twice : (Empty Desk Old Empty' Desk' Old' : Type 0) (S T U V : Message → Type 0) → Desk' → Rebuilds Empty Desk Old S T → SameSet T U
    → Rebuilds Empty' Desk' Old' U V → Rebuilds Empty Desk Old S V
rebuilt_twice Empty Desk Old Empty' Desk' Old' S T U V desk first same (inl none) = absurd (none.1 desk)
rebuilt_twice Empty Desk Old Empty' Desk' Old' S T U V desk (inl nothing) same (inr second) =
    inl (nothing.0, nothing.1, nothing.2, λ m held. nothing.3 m ((same m).1 ((second.2 m).1 held)))
rebuilt_twice Empty Desk Old Empty' Desk' Old' S T U V desk (inr kept) same (inr second) =
    inr (kept.0, kept.1, same_sets S T V kept.2 (same_sets T U V same second.2))

-- a refusal by the keeper is one of all that may come
pub told_why : (e : Refusal) → IsWant e ⊎ (e ≡ NotADesk) → IsWant e ⊎ (e ≡ NotADesk) ⊎ (e ≡ BaseTooLarge)
told_why e (inl want) = inl want
told_why e (inr is) = inr (inl is)

-- what a desk was rebuilt to is the same where the same messages are held
pub rebuilt_still : (Empty Desk Old : Type 0) (S T U : Message → Type 0) → Rebuilds Empty Desk Old S T → SameSet T U → Rebuilds Empty Desk Old S U
rebuilt_still Empty Desk Old S T U (inl nothing) same = inl (nothing.0, nothing.1, nothing.2, λ m held. nothing.3 m ((same m).1 held))
rebuilt_still Empty Desk Old S T U (inr kept) same = inr (kept.0, kept.1, same_sets S T U kept.2 same)

-- why the last of two rebuildings is refused
pub last_refused : (First Fits Other : Type 0) (e : Refusal) → First → IsWant e ⊎ ((e ≡ BaseTooLarge) × (¬ Fits))
    → IsWant e ⊎ Other ⊎ ((e ≡ BaseTooLarge) × First × (¬ Fits))
last_refused First Fits Other e first (inl want) = inl want
last_refused First Fits Other e first (inr large) = inr (inr (large.0, first, large.1))
