-- Which desk is opened over what a keeper keeps, and why none is.
use Rattle.std.specs.Prelude.{◌≡◌, ◌≢◌, ◌⊎◌, ℕ, List}
use Rattle.store_tables.specs.Sets.{IsNothing, SameSet}
use Rattle.messages.specs.declared.message.Message.{Message}
use Rattle.desk.specs.declared.refusal.Refusal.{Refusal}
use Rattle.desk.specs.declared.refusal.Refusal.TheVariants.{RosterChanged, NotADesk}
use Rattle.desk.specs.declared.refusal.Refusal.TheVariants.{OldSchema, BaseTooLarge}

-- Where the keeper kept no part of a desk, the desk holds nothing. Where the keeper kept a desk of
-- the same roster's text, the opened desk holds what that desk held.
abbrev pub Opens : (Empty Desk Old : Type 0)
    → (recorded text : List ℕ) → (old new : Message → Type 0) → Type 0
Opens Empty Desk Old recorded text old new =
    (Empty × (¬ Desk) × (¬ Old) × IsNothing new)
    ⊎ (Desk × (¬ Empty) × (¬ Old) × (recorded ≡ text) × SameSet old new)

-- The refusal that is right: a base past the limits, else something that is not a desk, a desk of
-- an older form, or a desk of another roster's text. At most one is right.
abbrev pub Refuses : (Fits Empty Desk Old : Type 0) → (recorded text : List ℕ) → Refusal → Type 0
Refuses Fits Empty Desk Old recorded text BaseTooLarge = ¬ Fits
Refuses Fits Empty Desk Old recorded text NotADesk = Fits × (¬ Empty) × (¬ Desk) × (¬ Old)
Refuses Fits Empty Desk Old recorded text OldSchema = Fits × Old × (¬ Desk)
Refuses Fits Empty Desk Old recorded text RosterChanged = Fits × Desk × (recorded ≢ text)
Refuses Fits Empty Desk Old recorded text _ = ⊥

-- an opening is refused with these, and for want of memory or of the storage
abbrev pub IsOpeningRefusal : Refusal → Type 0
IsOpeningRefusal e =
    (e ≡ BaseTooLarge) ⊎ (e ≡ NotADesk) ⊎ (e ≡ OldSchema) ⊎ (e ≡ RosterChanged)

-- The refusals that may come before a desk's table is read: for a base past the limits, and for
-- something that has no such tables. So these refusals do not say that the keeper is up.
abbrev pub IsUnseen : Refusal → Type 0
IsUnseen e = (e ≡ BaseTooLarge) ⊎ (e ≡ NotADesk)
