-- The messages of a set about some of the set's names, and the knowledge that they give.
use Rattle.std.specs.Prelude.{◌≡◌, ◌⊎◌, List, Contains}
use Rattle.messages.specs.Wire.{IsMessage}
use Rattle.messages.specs.declared.message.Message.{Message}
use Rattle.messages.specs.declared.request_name.RequestName.{RequestName}
use Rattle.grants.specs.Verdicts.{IsDisputed}
use Rattle.outcomes.specs.About.{name_in}
use Rattle.outcomes.specs.Gathered.{AreGathered, Known}

-- this is known of the set, and each of its messages can be written
pub record AreWritable (messages : List Message) (known : Known) : Type 0 where
  pub gathered : AreGathered messages known
  pub written : (m : Message) → Contains messages m → IsMessage m

-- the name is disputed, or the part has each of the set's messages about it
abbrev pub IsCovered : List Message → (part : List Message) → RequestName → Type 0
IsCovered messages part name =
    IsDisputed messages name
    ⊎ ((m : Message) → Contains messages m → name_in m ≡ name → Contains part m)

-- This is known of a part of the set. The part has only messages of the set: with each message all
-- that the set has about the same name, and all about these names, but for disputed ones.
pub record IsPartFor (messages : List Message) (names : List RequestName) (known : Known)
    : Type 0 where
  pub part : List Message
  pub gathered : AreGathered part known
  pub own : (m : Message) → Contains part m → Contains messages m
  pub whole : (m n : Message) → Contains part m → Contains messages n
      → name_in n ≡ name_in m → Contains part n
  pub covers : (name : RequestName) → Contains names name → IsCovered messages part name
