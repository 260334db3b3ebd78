-- Verdicts that never count.
use Rattle.std.specs.Prelude.{◌≡◌, false, List, Contains, Some}
use Rattle.sudo_words.specs.declared.cmnd.Cmnd.{Cmnd}
use Rattle.messages.specs.Fields.{RequestFields, VerdictFields}
use Rattle.messages.specs.Names.{IsAbout}
use Rattle.messages.specs.declared.message.Message.{Message}
use Rattle.messages.specs.declared.message.Message.TheVariants.{Request}
use Rattle.roster.specs.Fields.{CeilingFields, RosterFields}
use Rattle.roster.specs.Relations.{ceiling_at}
use Rattle.grants.specs.Verdicts.{counts}

-- The verdict does not count under the ceiling of any request of the set that it is about.
abbrev pub NeverCounts : RosterFields Cmnd → List Message → VerdictFields → Type 0
NeverCounts f messages v =
    (q : RequestFields) (c : CeilingFields Cmnd) → Contains messages (Request q)
    → IsAbout q v → ceiling_at f q.ceiling ≡ Some c → counts f c v ≡ false
