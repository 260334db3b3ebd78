-- When two sets of messages grant the same from a moment on.
use Rattle.std.specs.Prelude.{◌≡◌, ◌↔◌, ℕ, ◌≤◌, List}
use Rattle.sudo_words.specs.declared.cmnd.Cmnd.{Cmnd}
use Rattle.sudo_policy.specs.declared.entry.Entry.{Entry}
use Rattle.sudo_decide.specs.declared.invocation.Invocation.{Invocation}
use Rattle.messages.specs.Fields.{RequestFields}
use Rattle.messages.specs.declared.message.Message.{Message}
use Rattle.roster.specs.Fields.{RosterFields}
use Rattle.grants.specs.Statuses.{InWindow}
use Rattle.outcomes.specs.Covers.{Covers}
use Rattle.outcomes.specs.HostFile.{AreLines, IsHostFileAfter, Line, lines_after}
use Rattle.outcomes.specs.Outcomes.{AreLive, LiveGrant}
use Rattle.outcomes.specs.Rights.{GivesRightsAfter}

-- At the moment and at each later one, each request is in force for both or for neither, each
-- invocation is covered by both or by neither, the same grants are in force with the same windows,
-- each host has the same lines and the same file without those that have ended, and each text gives
-- the same rights.
pub record GrantTheSameFrom (f : RosterFields Cmnd) (moment : ℕ) (s t : List Message)
    : Type 0 where
  pub windows : (q : RequestFields) (at : ℕ) → moment ≤ at → InWindow f s q at ↔ InWindow f t q at
  pub covers : (i : Invocation) → moment ≤ i.at → Covers f s i ↔ Covers f t i
  pub live : (at : ℕ) (list : List LiveGrant) → moment ≤ at
      → AreLive f s at list ↔ AreLive f t at list
  pub lines : (host : List ℕ) (at : ℕ) (xs ys : List Line) → moment ≤ at
      → AreLines f s host xs → AreLines f t host ys → lines_after at xs ≡ lines_after at ys
  pub files : (base : List Entry) (host : List ℕ) (at : ℕ) (a b : List ℕ) → moment ≤ at
      → IsHostFileAfter f base s host at a → IsHostFileAfter f base t host at b → a ≡ b
  pub rights : (base : List Entry) (host : List ℕ) (at : ℕ) (text : List ℕ) → moment ≤ at
      → GivesRightsAfter f base s host at text ↔ GivesRightsAfter f base t host at text
