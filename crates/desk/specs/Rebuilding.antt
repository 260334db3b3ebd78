-- Which desk a keeper keeps once it is rebuilt with a roster, and why it is not.
use Rattle.std.specs.Prelude.{◌⊎◌}
use Rattle.messages.specs.declared.message.Message.{Message}
use Rattle.store_tables.specs.Sets.{IsNothing, SameSet}
use Rattle.desk.specs.declared.refusal.Refusal.{Refusal}
use Rattle.desk.specs.declared.refusal.Refusal.TheVariants.{NotADesk, BaseTooLarge}

-- Where the keeper kept no part of a desk, the desk holds nothing. Where the keeper kept a desk,
-- with any roster's text and of either form, the new desk holds what that desk held, also what the
-- roster does not admit.
abbrev pub Rebuilds : (Empty Desk Old : Type 0) → (old new : Message → Type 0) → Type 0
Rebuilds Empty Desk Old old new =
    (Empty × (¬ Desk) × (¬ Old) × IsNothing new) ⊎ ((Desk ⊎ Old) × (¬ Empty) × SameSet old new)

-- The refusal that is right: a base past the limits, else something that is not a desk. Another
-- roster's text is not refused, nor is an older form.
abbrev pub RefusesToRebuild : (Fits Empty Desk Old : Type 0) → Refusal → Type 0
RefusesToRebuild Fits Empty Desk Old BaseTooLarge = ¬ Fits
RefusesToRebuild Fits Empty Desk Old NotADesk = Fits × (¬ Empty) × (¬ Desk) × (¬ Old)
RefusesToRebuild Fits Empty Desk Old _ = ⊥
