-- Which messages a roster admits, and why it denies the others (least privilege, NIST SP 800-53
-- AC-6).
use Rattle.std.specs.Prelude.{◌≡◌, ℕ, ◌+◌, ◌<◌, ◌≤◌, ◌⊎◌, true, false, List, Contains, Some, None}
use Rattle.sudo_words.specs.declared.cmnd.Cmnd.{Cmnd}
use Rattle.messages.specs.Fields.{RequestFields, VerdictFields}
use Rattle.messages.specs.declared.message.Message.{Message}
use Rattle.messages.specs.declared.message.Message.TheVariants.{Request, Verdict}
use Rattle.roster.specs.Fields.{CeilingFields, RosterFields}
use Rattle.roster.specs.Relations.{ceiling_at, has_person, holds}
use Rattle.grants.specs.Reach.{LiesInside}
use Rattle.grants.specs.Denials.{denial_number}
use Rattle.grants.specs.declared.denial.Denial.{Denial}
use Rattle.grants.specs.declared.denial.Denial.TheVariants.{UnknownPerson, UnknownCeiling}
use Rattle.grants.specs.declared.denial.Denial.TheVariants.{NotAsker, HostOutside}
use Rattle.grants.specs.declared.denial.Denial.TheVariants.{RunasOutside, CommandOutside}
use Rattle.grants.specs.declared.denial.Denial.TheVariants.{WindowTooLong, WindowBackwards}

-- ---- what a roster admits

-- one of the commands reaches all that this one reaches
abbrev pub LiesInsideOne : (commands : List Cmnd) → Cmnd → Type 0
LiesInsideOne commands cmnd = (c : Cmnd) × Contains commands c × LiesInside cmnd c

-- The request asks for no host, no target and no command outside the ceiling.
pub record IsWithin (r : RequestFields) (c : CeilingFields Cmnd) : Type 0 where
  pub hosts : (host : List ℕ) → Contains r.hosts host → Contains c.hosts host
  pub target : Contains c.runas r.runas
  pub commands : (cmnd : Cmnd) → Contains r.cmnds cmnd → LiesInsideOne c.commands cmnd

-- The request's window is at most as long as the ceiling allows, begins no earlier than the request
-- was made, and ends no earlier than it begins.
pub record IsInTime (r : RequestFields) (c : CeilingFields Cmnd) : Type 0 where
  pub short : r.until ≤ r.from + c.longest
  pub ahead : r.at ≤ r.from
  pub forward : r.from ≤ r.until

-- The request names this ceiling, and the asker is listed and holds, when the request is made, the
-- duty that the ceiling requires for asking.
pub record MayAskUnder (f : RosterFields Cmnd)
    (r : RequestFields) (c : CeilingFields Cmnd) : Type 0 where
  pub listed : has_person f r.by ≡ true
  pub ceiling_is : ceiling_at f r.ceiling ≡ Some c
  pub may_ask : holds f r.by c.ask r.at ≡ true

-- The roster admits the request: the asker may ask under a ceiling that allows all that is asked
-- for, for so long.
pub record AdmitsRequest (f : RosterFields Cmnd) (r : RequestFields) : Type 0 where
  pub ceiling : CeilingFields Cmnd
  pub may_ask : MayAskUnder f r ceiling
  pub within : IsWithin r ceiling
  pub in_time : IsInTime r ceiling

-- The roster admits the verdict: it lists the person who gives it and the person who asked. Whether
-- it counts is decided under the request's ceiling.
pub record AdmitsVerdict (f : RosterFields Cmnd) (v : VerdictFields) : Type 0 where
  pub listed : has_person f v.by ≡ true
  pub asker_listed : has_person f v.of ≡ true

abbrev pub Admits : RosterFields Cmnd → Message → Type 0
Admits f (Request r) = AdmitsRequest f r
Admits f (Verdict v) = AdmitsVerdict f v

-- ---- why a roster denies

-- the request's ceiling is in the roster, and P holds for it
abbrev pub UnderCeiling : RosterFields Cmnd → RequestFields → (CeilingFields Cmnd → Type 0) → Type 0
UnderCeiling f r P = (c : CeilingFields Cmnd) × (ceiling_at f r.ceiling ≡ Some c) × P c

-- a host of the request is not among the ceiling's hosts
abbrev pub HasHostOutside : RequestFields → CeilingFields Cmnd → Type 0
HasHostOutside r c = (host : List ℕ) × Contains r.hosts host × ¬ Contains c.hosts host

-- a command of the request lies inside none of the ceiling's
abbrev pub HasCommandOutside : RequestFields → CeilingFields Cmnd → Type 0
HasCommandOutside r c = (cmnd : Cmnd) × Contains r.cmnds cmnd × ¬ LiesInsideOne c.commands cmnd

-- When each denial, taken by itself, applies to a request.
abbrev pub DeniesRequest : RosterFields Cmnd → RequestFields → Denial → Type 0
DeniesRequest f r UnknownPerson = has_person f r.by ≡ false
DeniesRequest f r UnknownCeiling = ceiling_at f r.ceiling ≡ None
DeniesRequest f r NotAsker = UnderCeiling f r (λ c. holds f r.by c.ask r.at ≡ false)
DeniesRequest f r HostOutside = UnderCeiling f r (HasHostOutside r)
DeniesRequest f r RunasOutside = UnderCeiling f r (λ c. ¬ Contains c.runas r.runas)
DeniesRequest f r CommandOutside = UnderCeiling f r (HasCommandOutside r)
DeniesRequest f r WindowTooLong = UnderCeiling f r (λ c. r.from + c.longest < r.until)
DeniesRequest f r WindowBackwards = (r.from < r.at) ⊎ (r.until < r.from)

-- A verdict can meet only the first of them.
abbrev pub DeniesVerdict : RosterFields Cmnd → VerdictFields → Denial → Type 0
DeniesVerdict f v UnknownPerson = (has_person f v.by ≡ false) ⊎ (has_person f v.of ≡ false)
DeniesVerdict f v _ = ⊥

abbrev pub Denies : RosterFields Cmnd → Message → Denial → Type 0
Denies f (Request r) d = DeniesRequest f r d
Denies f (Verdict v) d = DeniesVerdict f v d

-- the first denial that applies to the message
pub record IsDenial (f : RosterFields Cmnd) (m : Message) (d : Denial) : Type 0 where
  pub applies : Denies f m d
  pub first : (lower : Denial) → denial_number lower < denial_number d → ¬ Denies f m lower
