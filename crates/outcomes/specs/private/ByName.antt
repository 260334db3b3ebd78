-- What is known of a set of messages, in two maps by name.
use Rattle.std.specs.Prelude.{◌≡◌, ◌↔◌, List, [], ◌∷◌, ◌++◌, Contains}
use Rattle.std.specs.Prelude.{Option, Some, None, MatchOption, Vec}
use Rattle.std.specs.declared.alloc.Global.{Global}
use Rattle.std.specs.BTreeMap.{BTreeMap, IsOrdered, get}
use Rattle.messages.specs.Fields.{IsRequest, VerdictFields}
use Rattle.messages.specs.Names.{IsNamed, NobodyAsks, name_cmp, name_meant}
use Rattle.messages.specs.NameRows.{IsMarked}
use Rattle.messages.specs.declared.name_row.NameRow.{NameRow}
use Rattle.messages.specs.declared.request_name.RequestName.{RequestName}
use Rattle.messages.specs.declared.message.Message.{Message}
use Rattle.messages.specs.declared.message.Message.TheVariants.{Request, Verdict}
use Rattle.grants.specs.Summaries.{Kept, StandsFor}
use Rattle.outcomes.specs.Parked.{IsParked}

-- what a map has at a name
abbrev pub at_name : {X : Type 0} → BTreeMap RequestName X → RequestName → Option X
at_name m name = get name_cmp m name

-- ---- summaries

-- a summary of the set's messages about a name
pub record IsSummaryOf (messages : List Message) (name : RequestName) (k : Kept) : Type 0 where
  pub named : IsNamed k.request name
  pub stands : StandsFor messages k

-- at each name the map has a summary of the set's messages about it, and nothing where nobody asks
pub record Gathers (messages : List Message) (summaries : BTreeMap RequestName Kept) : Type 0 where
  pub ordered : IsOrdered name_cmp summaries
  pub each : (name : RequestName)
      → MatchOption (at_name summaries name) (NobodyAsks messages name) (IsSummaryOf messages name)

-- Each keeps a request that can be written.
abbrev pub AreRequests : BTreeMap RequestName Kept → Type 0
AreRequests summaries =
    (name : RequestName) (k : Kept) → at_name summaries name ≡ Some k → IsRequest k.request

-- ---- summaries of requests alone

-- the set has no verdict
abbrev pub HasNoVerdict : List Message → Type 0
HasNoVerdict messages = (v : VerdictFields) → ¬ Contains messages (Verdict v)

-- The summaries are what is known of some set of requests.
abbrev pub AreAlone : BTreeMap RequestName Kept → Type 0
AreAlone summaries = (messages : List Message) × HasNoVerdict messages × Gathers messages summaries

-- the row is of a request of the set, and is marked as disputed if the set has another of its name,
-- else not
abbrev pub IsRowOf : List Message → NameRow → Type 0
IsRowOf messages row = Contains messages (Request row.request)
    × IsMarked (λ m. Contains messages m) row.request row.is_disputed

-- no row is of the name
abbrev pub NoRowOf : List NameRow → RequestName → Type 0
NoRowOf rows name = (row : NameRow) → Contains rows row → ¬ IsNamed row.request name

-- at the name of each row the map has a summary of the set's messages about it, and nothing at
-- other names
pub record GathersRows (messages : List Message) (rows : List NameRow)
    (summaries : BTreeMap RequestName Kept) : Type 0 where
  pub ordered : IsOrdered name_cmp summaries
  pub each : (name : RequestName)
      → MatchOption (at_name summaries name) (NoRowOf rows name) (IsSummaryOf messages name)

-- ---- verdicts that wait

abbrev pub listed : Option (Vec VerdictFields Global) → List VerdictFields
listed None = []
listed (Some verdicts) = verdicts.items

-- those that wait at a name
abbrev pub verdicts_at : BTreeMap RequestName (Vec VerdictFields Global)
    → RequestName → List VerdictFields
verdicts_at waiting name = listed (at_name waiting name)

-- lists of verdicts, one after another
abbrev pub in_turn : List (Vec VerdictFields Global) → List VerdictFields
in_turn [] = []
in_turn (l ∷ more) = l.items ++ in_turn more

-- at each name the map has the set's verdicts about it, and nothing where somebody asks
pub record Waits (messages : List Message)
    (waiting : BTreeMap RequestName (Vec VerdictFields Global)) : Type 0 where
  pub ordered : IsOrdered name_cmp waiting
  pub each : (name : RequestName) (v : VerdictFields)
      → Contains (verdicts_at waiting name) v ↔ ((name_meant v ≡ name) × IsParked messages v)

-- ---- both

pub record AreByName (messages : List Message) (asked : BTreeMap RequestName Kept)
    (waited : BTreeMap RequestName (Vec VerdictFields Global)) : Type 0 where
  pub summaries : Gathers messages asked
  pub waiting : Waits messages waited

-- The maps are what is known of some set.
abbrev pub IsByName : BTreeMap RequestName Kept
    → BTreeMap RequestName (Vec VerdictFields Global) → Type 0
IsByName summaries waiting = (messages : List Message) × AreByName messages summaries waiting
