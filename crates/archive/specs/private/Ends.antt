-- The last end that is asked for under each name of a set. For private clauses.
use Rattle.std.specs.Prelude.{◌≡◌, ℕ, ◌≤◌, Bool, false, not, nat_le, List, Contains}
use Rattle.std.specs.Prelude.{Option, Some, None, MatchOption}
use Rattle.std.specs.BTreeMap.{BTreeMap, get}
use Rattle.messages.specs.Fields.{RequestFields}
use Rattle.messages.specs.Names.{IsNamed, NobodyAsks, name_cmp}
use Rattle.messages.specs.declared.message.Message.{Message}
use Rattle.messages.specs.declared.message.Message.TheVariants.{Request}
use Rattle.messages.specs.declared.request_name.RequestName.{RequestName}

abbrev pub Ends : Type 0
Ends = BTreeMap RequestName ℕ

-- what a map has at a name
abbrev pub end_at : Ends → RequestName → Option ℕ
end_at ends name = get name_cmp ends name

-- some request of the name asks for this end, and none for a later one
pub record IsLastEnd (messages : List Message) (name : RequestName) (last : ℕ) : Type 0 where
  pub request : RequestFields
  pub asked : Contains messages (Request request)
  pub named : IsNamed request name
  pub ends : request.until ≡ last
  pub each : (q : RequestFields) → Contains messages (Request q) → IsNamed q name → q.until ≤ last

-- at each name the map has the last end of the set's requests, and nothing where nobody asks
abbrev pub AreEnds : List Message → Ends → Type 0
AreEnds messages ends = (name : RequestName)
    → MatchOption (end_at ends name) (NobodyAsks messages name) (IsLastEnd messages name)

-- whether there is an end, and it is the moment or later
abbrev pub reaches : Option ℕ → ℕ → Bool
reaches None moment = false
reaches (Some last) moment = nat_le moment last

-- whether there is an end, and it is before the moment
abbrev pub is_past : Option ℕ → ℕ → Bool
is_past None moment = false
is_past (Some last) moment = not (nat_le moment last)
