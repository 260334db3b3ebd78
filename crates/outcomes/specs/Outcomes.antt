-- What a name comes to, and which grants are in force at a moment.
use Rattle.std.specs.Prelude.{◌≡◌, ℕ, List, Contains, Option, Some, None}
use Rattle.sudo_words.specs.declared.cmnd.Cmnd.{Cmnd}
use Rattle.messages.specs.Fields.{RequestFields}
use Rattle.messages.specs.Names.{NamePrecedes, IsNamed}
use Rattle.messages.specs.declared.request_name.RequestName.{RequestName}
pub use Rattle.messages.specs.Names.{NobodyAsks}
use Rattle.messages.specs.declared.message.Message.{Message}
use Rattle.roster.specs.Fields.{RosterFields}
use Rattle.grants.specs.Statuses.{InWindow, IsFirstMoment, IsLastMoment, IsStatus}
use Rattle.grants.specs.declared.outcome.Status.{Status}
use Rattle.grants.specs.declared.outcome.Window.{Window}
use Rattle.messages.specs.Order.{AreInOrder}

-- ---- statuses

-- The name's status, or none where nobody asks.
abbrev pub ComesTo : RosterFields Cmnd → List Message → RequestName → Option Status → Type 0
ComesTo f messages name None = NobodyAsks messages name
ComesTo f messages name (Some status) = IsStatus f messages name status

-- ---- grants in force

-- a granted request's name, its ceiling and its window
pub record LiveGrant : Type 0 where
  pub name : RequestName
  pub ceiling : List ℕ
  pub window : Window

-- The grant of a request whose window holds the moment.
pub record IsLive (f : RosterFields Cmnd) (messages : List Message)
    (moment : ℕ) (l : LiveGrant) : Type 0 where
  pub request : RequestFields
  pub named : IsNamed request l.name
  pub ceiling_is : l.ceiling ≡ request.ceiling
  pub inside : InWindow f messages request moment
  pub first : IsFirstMoment f messages request l.window.start
  pub last : IsLastMoment f messages request l.window.end

abbrev pub LivePrecedes : (a b : LiveGrant) → Type 0
LivePrecedes a b = NamePrecedes a.name b.name

-- the grants in force at the moment: these and no others, by the asker in byte order, then by the
-- number
pub record AreLive (f : RosterFields Cmnd) (messages : List Message)
    (moment : ℕ) (list : List LiveGrant) : Type 0 where
  pub in_order : AreInOrder LivePrecedes list
  pub each : (l : LiveGrant) → Contains list l → IsLive f messages moment l
  pub all : (l : LiveGrant) → IsLive f messages moment l → Contains list l
