-- When a request's grant is in force, and what the messages about a name come to.
use Rattle.std.specs.Prelude.{ℕ, ◌≤◌, nat_le, ◌&&◌, if◌then◌else◌, List, Option, Some, None}
use Rattle.sudo_words.specs.declared.cmnd.Cmnd.{Cmnd}
use Rattle.messages.specs.Fields.{RequestFields}
use Rattle.messages.specs.Names.{IsNamed}
use Rattle.messages.specs.declared.request_name.RequestName.{RequestName}
use Rattle.messages.specs.declared.message.Message.{Message}
use Rattle.roster.specs.Fields.{RosterFields}
use Rattle.grants.specs.Admission.{AdmitsRequest}
use Rattle.grants.specs.Verdicts.{StandsAlone, IsDisputed, IsComplete, IsRefused, RevokedBy}
use Rattle.grants.specs.declared.outcome.Status.{Status}
use Rattle.grants.specs.declared.outcome.Window.{Window}
use Rattle.grants.specs.declared.outcome.Status.TheVariants.{Disputed, Lapsed, Refused}
use Rattle.grants.specs.declared.outcome.Status.TheVariants.{Waiting, Void, Granted}

-- ---- windows: the moments at which a request's grant is in force

-- The request stands alone, is admitted, is not refused, and is complete; it asks for the moment,
-- and nobody has revoked by then.
pub record InWindow (f : RosterFields Cmnd) (messages : List Message)
    (q : RequestFields) (moment : ℕ) : Type 0 where
  pub alone : StandsAlone messages q
  pub admissible : AdmitsRequest f q
  pub unrefused : ¬ IsRefused f messages q
  pub complete : ℕ
  pub complete_is : IsComplete f messages q complete
  pub from : q.from ≤ moment
  pub behind : complete ≤ moment
  pub until : moment ≤ q.until
  pub unrevoked : ¬ RevokedBy f messages q moment

pub record IsFirstMoment (f : RosterFields Cmnd) (messages : List Message)
    (q : RequestFields) (moment : ℕ) : Type 0 where
  pub inside : InWindow f messages q moment
  pub least : (other : ℕ) → InWindow f messages q other → moment ≤ other

pub record IsLastMoment (f : RosterFields Cmnd) (messages : List Message)
    (q : RequestFields) (moment : ℕ) : Type 0 where
  pub inside : InWindow f messages q moment
  pub greatest : (other : ℕ) → InWindow f messages q other → other ≤ moment

-- ---- statuses

-- The set has one request of the name, the roster still admits it, and P holds for it.
pub record IsAdmitted (f : RosterFields Cmnd) (messages : List Message)
    (name : RequestName) (P : RequestFields → Type 0) : Type 0 where
  pub request : RequestFields
  pub named : IsNamed request name
  pub alone : StandsAlone messages request
  pub admissible : AdmitsRequest f request
  pub is : P request

-- The set has one request of the name, and the roster does not admit it (any more).
pub record IsLapsed (f : RosterFields Cmnd)
    (messages : List Message) (name : RequestName) : Type 0 where
  pub request : RequestFields
  pub named : IsNamed request name
  pub alone : StandsAlone messages request
  pub inadmissible : ¬ AdmitsRequest f request

-- no moment completes the request
abbrev pub NeverComplete : RosterFields Cmnd → List Message → RequestFields → Type 0
NeverComplete f messages q = (moment : ℕ) → ¬ IsComplete f messages q moment

-- complete, with an empty window
pub record IsVoid (f : RosterFields Cmnd)
    (messages : List Message) (q : RequestFields) : Type 0 where
  pub unrefused : ¬ IsRefused f messages q
  pub complete : ℕ
  pub complete_is : IsComplete f messages q complete
  pub empty : (moment : ℕ) → ¬ InWindow f messages q moment

-- What the set's messages about the name come to: the first that applies.
abbrev pub IsStatus : RosterFields Cmnd → List Message → RequestName → Status → Type 0
IsStatus f messages name Disputed = IsDisputed messages name
IsStatus f messages name Lapsed = IsLapsed f messages name
IsStatus f messages name Refused = IsAdmitted f messages name (IsRefused f messages)
IsStatus f messages name Waiting =
    IsAdmitted f messages name (λ q. (¬ IsRefused f messages q) × NeverComplete f messages q)
IsStatus f messages name Void = IsAdmitted f messages name (IsVoid f messages)
IsStatus f messages name (Granted w) =
    IsAdmitted f messages name
    (λ q. IsFirstMoment f messages q w.start × IsLastMoment f messages q w.end)

-- ---- what is in force at a moment

-- the window of a grant, if it contains the moment
abbrev pub window_at : ℕ → Status → Option Window
window_at at Disputed = None
window_at at Lapsed = None
window_at at Refused = None
window_at at Waiting = None
window_at at Void = None
window_at at (Granted w) = if nat_le w.start at && nat_le at w.end then Some w else None
