-- When two sets of messages grant the same.
use Rattle.std.specs.Prelude.{◌↔◌, ℕ, List, Option}
use Rattle.sudo_words.specs.declared.cmnd.Cmnd.{Cmnd}
use Rattle.sudo_policy.specs.declared.entry.Entry.{Entry}
use Rattle.sudo_decide.specs.declared.invocation.Invocation.{Invocation}
use Rattle.messages.specs.Fields.{RequestFields}
use Rattle.messages.specs.declared.request_name.RequestName.{RequestName}
use Rattle.messages.specs.declared.message.Message.{Message}
use Rattle.roster.specs.Fields.{RosterFields}
use Rattle.grants.specs.Statuses.{InWindow}
use Rattle.grants.specs.declared.outcome.Status.{Status}
use Rattle.outcomes.specs.Covers.{Covers}
use Rattle.outcomes.specs.HostFile.{IsHostFile, IsHostFileAfter}
use Rattle.outcomes.specs.Outcomes.{AreLive, ComesTo, LiveGrant}

-- Each name comes to the same, each request is in force at the same moments, each invocation is
-- covered by both or by neither, the same grants are in force at each moment, and each host has the
-- same file for each base, the whole and that after each moment.
pub record GrantTheSame (f : RosterFields Cmnd) (s t : List Message) : Type 0 where
  pub statuses : (name : RequestName) (o : Option Status) → ComesTo f s name o ↔ ComesTo f t name o
  pub windows : (q : RequestFields) (moment : ℕ) → InWindow f s q moment ↔ InWindow f t q moment
  pub covers : (i : Invocation) → Covers f s i ↔ Covers f t i
  pub live : (moment : ℕ) (list : List LiveGrant)
      → AreLive f s moment list ↔ AreLive f t moment list
  pub files : (base : List Entry) (host text : List ℕ)
      → IsHostFile f base s host text ↔ IsHostFile f base t host text
  pub files_after : (base : List Entry) (host : List ℕ) (moment : ℕ) (text : List ℕ)
      → IsHostFileAfter f base s host moment text ↔ IsHostFileAfter f base t host moment text
