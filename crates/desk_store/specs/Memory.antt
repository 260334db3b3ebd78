-- What a keeper in memory keeps.
use Rattle.std.specs.Prelude.{ℕ, List, [], Option, None, Contains}
use Rattle.messages.specs.Wire.{IsMessage}
use Rattle.messages.specs.declared.message.Message.{Message}

-- The text of a desk's roster, and its messages. Only the members of the list matter.
pub record MemoryContent : Type 0 where
  pub roster : Option (List ℕ)
  pub messages : List Message

-- no part of a desk
abbrev pub nothing : MemoryContent
nothing = record { roster = None; messages = [] }

-- the keeper in memory holds the message
abbrev pub MemoryHolds : MemoryContent → Message → Type 0
MemoryHolds k m = IsMessage m × Contains k.messages m
