-- How many messages a set has.
use Rattle.std.specs.Prelude.{◌≡◌, ◌≢◌, ℕ, List, AllPairs, length}
use Rattle.messages.specs.Names.{SameMessages}
use Rattle.messages.specs.declared.message.Message.{Message}

-- As many as a list has that contains each message of the set once, and no other.
pub record IsCount (set : List Message) (count : ℕ) : Type 0 where
  pub each : List Message
  pub same : SameMessages set each
  pub once : AllPairs (λ m n. m ≢ n) each
  pub counted : length each ≡ count
