-- What a crash leaves, as the next opening finds it.
use Rattle.std.specs.Prelude.{◌≡◌, ◌⊎◌, true, List, ℕ}
use Rattle.messages.specs.Wire.{wire, IsMessage}
use Rattle.messages.specs.declared.message.Message.{Message}
use Rattle.store_tables.specs.Sets.{SameSet, With}
use Rattle.store_tables.specs.Stored.{Content, has}

-- No part of a desk, a desk with all that it keeps, a desk of an older form with its messages, or
-- something under a desk's names that is not a desk.
pub data Left : Type 0 where
  Nothing : Left
  ADesk : Content → Left
  AnOldDesk : Content → Left
  NoDesk : Left

-- the message's text is one of the desk's
abbrev pub HoldsIn : Content → Message → Type 0
HoldsIn c m = IsMessage m × (has c (wire m) ≡ true)

-- a whole desk, with this roster text and exactly these messages
abbrev pub IsDeskOf : (roster : List ℕ) → (messages : Message → Type 0) → Left → Type 0
IsDeskOf roster S Nothing = ⊥
IsDeskOf roster S (ADesk c) = (c.roster ≡ roster) × SameSet S (HoldsIn c)
IsDeskOf roster S (AnOldDesk c) = ⊥
IsDeskOf roster S NoDesk = ⊥

-- a desk of an older form, with this roster text and exactly these messages
abbrev pub IsOldDeskOf : (roster : List ℕ) → (messages : Message → Type 0) → Left → Type 0
IsOldDeskOf roster S Nothing = ⊥
IsOldDeskOf roster S (ADesk c) = ⊥
IsOldDeskOf roster S (AnOldDesk c) = (c.roster ≡ roster) × SameSet S (HoldsIn c)
IsOldDeskOf roster S NoDesk = ⊥

-- What is left is what was kept: no part of a desk, the whole desk, or the whole desk of an older
-- form.
pub record IsAsKept (Empty Desk Old : Type 0) (roster : List ℕ)
    (S : Message → Type 0) (left : Left) : Type 0 where
  pub empty : Empty → left ≡ Nothing
  pub desk : Desk → IsDeskOf roster S left
  pub old : Old → IsOldDeskOf roster S left

-- no part of a desk, or a whole desk with this roster text and no message
abbrev pub IsNothingOrFresh : (roster : List ℕ) → Left → Type 0
IsNothingOrFresh roster left = (left ≡ Nothing) ⊎ IsDeskOf roster (λ _. ⊥) left

-- the whole desk without the message, or the whole desk with it
abbrev pub IsWithOrWithout : (roster : List ℕ)
    → (messages : Message → Type 0) → Message → Left → Type 0
IsWithOrWithout roster S m left = IsDeskOf roster S left ⊎ IsDeskOf roster (With S m) left

-- the desk as it was, of either form, or the whole desk with the new roster text and the messages
-- that it had
pub record IsReplacedOrNot (Desk Old : Type 0) (recorded text : List ℕ)
    (S : Message → Type 0) (left : Left) : Type 0 where
  pub desk : Desk → IsDeskOf recorded S left ⊎ IsDeskOf text S left
  pub old : Old → IsOldDeskOf recorded S left ⊎ IsDeskOf text S left

-- What a keeper keeps is what was left: no part of a desk, the whole desk, one of an older form, or
-- something that is not a desk.
abbrev pub IsFoundAs : (Empty Desk Old : Type 0) → (roster : List ℕ)
    → (messages : Message → Type 0) → Left → Type 0
IsFoundAs Empty Desk Old roster S Nothing = Empty × (¬ Desk) × (¬ Old)
IsFoundAs Empty Desk Old roster S (ADesk c) =
    Desk × (¬ Empty) × (¬ Old) × (roster ≡ c.roster) × SameSet S (HoldsIn c)
IsFoundAs Empty Desk Old roster S (AnOldDesk c) =
    Old × (¬ Empty) × (¬ Desk) × (roster ≡ c.roster) × SameSet S (HoldsIn c)
IsFoundAs Empty Desk Old roster S NoDesk = (¬ Empty) × (¬ Desk) × (¬ Old)

-- a keeper that was up committed the whole desk, with this roster text and exactly these messages
abbrev pub IsCommitted : (Up : Type 0) → (roster : List ℕ)
    → (messages : Message → Type 0) → Left → Type 0
IsCommitted Up roster S left = Up × IsDeskOf roster S left

-- After a call a crash may leave what it might have left before, and besides only what has the
-- property. So what was true of all that might be left stays true, if it is true of that.
abbrev pub AddsOnly : (Before After Property : Left → Type 0) → Type 0
AddsOnly Before After Property = (left : Left) → After left → Before left ⊎ Property left

-- everything that may be left has the property
abbrev pub LeavesOnly : (MayLeave Property : Left → Type 0) → Type 0
LeavesOnly MayLeave Property = (left : Left) → MayLeave left → Property left

-- something that may be left has the property
abbrev pub MayBe : (MayLeave Property : Left → Type 0) → Type 0
MayBe MayLeave Property = (left : Left) × MayLeave left × Property left
