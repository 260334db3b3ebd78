-- A walk over summaries.
use Rattle.std.specs.Prelude.{◌≡◌, List, Contains, Some}
use Rattle.std.specs.BTreeMap.{BTreeMap}
use Rattle.messages.specs.declared.request_name.RequestName.{RequestName}
use Rattle.grants.specs.Summaries.{Kept}
use Rattle.outcomes.specs.private.ByName.{at_name}

-- what is left of the walk: names of the map with their summaries
abbrev pub AreEntriesOf : BTreeMap RequestName Kept → List (RequestName × Kept) → Type 0
AreEntriesOf summaries rest =
    (e : RequestName × Kept) → Contains rest e → at_name summaries e.0 ≡ Some e.1
