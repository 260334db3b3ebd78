-- A history that is cut at a moment: the verdicts on what has ended by then go to an archive, and
-- every request stays. The set of messages is given as a list; each definition asks only which
-- messages it contains.
use Rattle.std.specs.Prelude.{ℕ, ◌<◌, ◌↔◌, List, Contains}
use Rattle.messages.specs.Fields.{RequestFields}
use Rattle.messages.specs.Names.{IsNamed, name_meant}
use Rattle.messages.specs.declared.message.Message.{Message}
use Rattle.messages.specs.declared.message.Message.TheVariants.{Request, Verdict}
use Rattle.messages.specs.declared.request_name.RequestName.{RequestName}

-- The name has ended before the moment: somebody asks under it, and nobody asks under it for an end
-- at the moment or later. (A request is in force up to its end, the end included.)
pub record HasEnded (messages : List Message) (moment : ℕ) (name : RequestName) : Type 0 where
  pub request : RequestFields
  pub asked : Contains messages (Request request)
  pub named : IsNamed request name
  pub each : (q : RequestFields) → Contains messages (Request q) → IsNamed q name
      → q.until < moment

-- The message is a verdict on a name that has ended. No request is, and no verdict that waits for
-- its request.
abbrev pub IsOver : List Message → ℕ → Message → Type 0
IsOver messages moment (Request q) = ⊥
IsOver messages moment (Verdict v) = HasEnded messages moment (name_meant v)

-- the set without the verdicts on names that have ended
abbrev pub IsCut : List Message → ℕ → (kept : List Message) → Type 0
IsCut messages moment kept =
    (m : Message) → Contains kept m ↔ (Contains messages m × (¬ IsOver messages moment m))

-- these verdicts
abbrev pub IsArchive : List Message → ℕ → (archived : List Message) → Type 0
IsArchive messages moment archived =
    (m : Message) → Contains archived m ↔ (Contains messages m × IsOver messages moment m)
