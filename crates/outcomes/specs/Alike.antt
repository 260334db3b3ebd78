-- When two rosters grant the same of one set of messages.
use Rattle.std.specs.Prelude.{◌↔◌, ℕ, List, Option}
use Rattle.sudo_words.specs.declared.cmnd.Cmnd.{Cmnd}
use Rattle.sudo_policy.specs.declared.entry.Entry.{Entry}
use Rattle.sudo_decide.specs.declared.invocation.Invocation.{Invocation}
use Rattle.messages.specs.Fields.{RequestFields}
use Rattle.messages.specs.declared.request_name.RequestName.{RequestName}
use Rattle.messages.specs.declared.message.Message.{Message}
use Rattle.roster.specs.Fields.{RosterFields}
use Rattle.grants.specs.Statuses.{InWindow}
use Rattle.grants.specs.declared.outcome.Status.{Status}
use Rattle.outcomes.specs.Covers.{Covers}
use Rattle.outcomes.specs.HostFile.{IsHostFile, IsHostFileAfter}
use Rattle.outcomes.specs.Outcomes.{AreLive, ComesTo, LiveGrant}
use Rattle.outcomes.specs.Rights.{GivesRights, GivesRightsAfter}

-- Under either roster each name comes to the same, each request is in force at the same moments,
-- the same invocations are covered, the same grants are in force at each moment, each host has the
-- same file for each base, the whole and that after each moment, and each text gives the same
-- rights.
pub record GrantAlike (f g : RosterFields Cmnd) (messages : List Message) : Type 0 where
  pub statuses : (name : RequestName) (o : Option Status)
      → ComesTo f messages name o ↔ ComesTo g messages name o
  pub windows : (q : RequestFields) (moment : ℕ)
      → InWindow f messages q moment ↔ InWindow g messages q moment
  pub covers : (i : Invocation) → Covers f messages i ↔ Covers g messages i
  pub live : (moment : ℕ) (list : List LiveGrant)
      → AreLive f messages moment list ↔ AreLive g messages moment list
  pub files : (base : List Entry) (host text : List ℕ)
      → IsHostFile f base messages host text ↔ IsHostFile g base messages host text
  pub files_after : (base : List Entry) (host : List ℕ) (moment : ℕ) (text : List ℕ)
      → IsHostFileAfter f base messages host moment text
      ↔ IsHostFileAfter g base messages host moment text
  pub rights : (base : List Entry) (host text : List ℕ)
      → GivesRights f base messages host text ↔ GivesRights g base messages host text
  pub rights_after : (base : List Entry) (host : List ℕ) (moment : ℕ) (text : List ℕ)
      → GivesRightsAfter f base messages host moment text
      ↔ GivesRightsAfter g base messages host moment text
