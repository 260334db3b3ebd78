-- What a set of messages says, in a map by name.
use Rattle.std.specs.Prelude.{◌≡◌, List, Contains, MatchOption}
use Rattle.std.specs.BTreeMap.{BTreeMap, IsOrdered}
use Rattle.messages.specs.Names.{name_cmp}
use Rattle.messages.specs.Order.{TextPrecedes}
use Rattle.messages.specs.Wire.{wire}
use Rattle.messages.specs.declared.message.Message.{Message}
use Rattle.messages.specs.declared.request_name.RequestName.{RequestName}
use Rattle.outcomes.specs.private.ByName.{at_name}
use Rattle.desk_audit.specs.Told.{TellsMessages, name_in}
use Rattle.findings.specs.declared.entry.About.{About}

-- the message's text comes after that of each message of the set
abbrev pub IsBehind : List Message → Message → Type 0
IsBehind messages m = (n : Message) → Contains messages n → TextPrecedes (wire n) (wire m)

-- no message of the set is about the name
abbrev pub NobodySpeaks : List Message → RequestName → Type 0
NobodySpeaks messages name = (m : Message) → Contains messages m → name_in m ≡ name → ⊥

-- some message of the set is about the name, and these are all such messages
pub record IsToldAt (messages : List Message) (name : RequestName) (about : About) : Type 0 where
  pub spoken : (m : Message) × Contains messages m × (name_in m ≡ name)
  pub told : TellsMessages messages name about

-- at each name the map has the set's messages about it, and nothing if there are none
pub record Gathers (messages : List Message) (all : BTreeMap RequestName About) : Type 0 where
  pub ordered : IsOrdered name_cmp all
  pub each : (name : RequestName)
      → MatchOption (at_name all name) (NobodySpeaks messages name) (IsToldAt messages name)
