-- Sets of messages. A set is a predicate, which holds for the messages in it: it has no order and
-- no repeats.
use Rattle.std.specs.Prelude.{◌≡◌, ◌⊎◌, List, Contains}
use Rattle.messages.specs.declared.message.Message.{Message}

-- the set has no message
abbrev pub IsNothing : (Message → Type 0) → Type 0
IsNothing S = (m : Message) → ¬ S m

-- both sets have the same messages
abbrev pub SameSet : (Message → Type 0) → (Message → Type 0) → Type 0
SameSet S T = (m : Message) → (S m → T m) × (T m → S m)

-- the messages of the set, and this one
abbrev pub With : (Message → Type 0) → Message → Message → Type 0
With S m n = S n ⊎ (n ≡ m)

-- the second set has exactly the messages of the first, and this one
abbrev pub IsWith : (Message → Type 0) → Message → (Message → Type 0) → Type 0
IsWith S m T = SameSet (With S m) T

-- the list has exactly the messages of the set
abbrev pub Lists : (Message → Type 0) → List Message → Type 0
Lists S list = SameSet S (λ m. Contains list m)
