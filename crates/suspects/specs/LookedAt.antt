-- Which names a report at a moment has to look at: those of the grants in force then, and those
-- under which somebody's approval does not count (separation of duties, NIST SP 800-53 AC-5).
use Rattle.std.specs.Prelude.{◌≡◌, ◌⊎◌, ℕ, true, List, Contains, Option, Some, None}
use Rattle.std.specs.BTreeSet.{BTreeSet}
use Rattle.sudo_words.specs.declared.cmnd.Cmnd.{Cmnd}
use Rattle.messages.specs.Fields.{RequestFields, VerdictFields}
use Rattle.messages.specs.Names.{IsNamed, name_of}
use Rattle.messages.specs.Order.{AreInOrder}
use Rattle.messages.specs.declared.kind.VerdictKind.TheVariants.{Approve}
use Rattle.messages.specs.declared.message.Message.{Message}
use Rattle.messages.specs.declared.message.Message.TheVariants.{Request, Verdict}
use Rattle.messages.specs.declared.request_name.RequestName.{RequestName}
use Rattle.roster.specs.Fields.{CeilingFields, RosterFields}
use Rattle.roster.specs.Relations.{ceiling_at, eligible}
use Rattle.grants.specs.Summaries.{Kept, StandsFor}
use Rattle.grants.specs.Verdicts.{StandsAlone}
use Rattle.outcomes.specs.Outcomes.{IsLive, LiveGrant}
use Rattle.outcomes.specs.Summaries.{SummaryPrecedes}

-- ---- approvals that count

-- the person's approval of the request at the moment
abbrev pub approval : RequestFields → (person : List ℕ) → (at : ℕ) → VerdictFields
approval q person at = record { at = at; by = person; kind = Approve; no = q.no; of = q.by }

-- If the set has one request of the name, and its ceiling is one of the roster, then whoever
-- approved it was eligible at the moment of each approval. A disputed name has no such request.
abbrev pub AllCount : RosterFields Cmnd → List Message → RequestName → Type 0
AllCount f messages name =
    (q : RequestFields) (c : CeilingFields Cmnd) (person : List ℕ) (at : ℕ)
    → IsNamed q name → StandsAlone messages q → ceiling_at f q.ceiling ≡ Some c
    → Contains messages (Verdict (approval q person at)) → eligible f person q.by c at ≡ true

-- ---- names that may be passed over

-- No grant of the name is in force at the moment, and all approvals under it count.
pub record MayBePassedOver (f : RosterFields Cmnd) (messages : List Message)
    (at : ℕ) (name : RequestName) : Type 0 where
  pub not_live : (l : LiveGrant) → IsLive f messages at l → ¬ (l.name ≡ name)
  pub all_count : AllCount f messages name

-- Summaries of the set's names, in their order, and each name that somebody asks under is among
-- them or may be passed over.
pub record AreReviewed (f : RosterFields Cmnd) (messages : List Message)
    (at : ℕ) (list : List Kept) : Type 0 where
  pub in_order : AreInOrder SummaryPrecedes list
  pub each : (k : Kept) → Contains list k → StandsFor messages k
  pub all : (q : RequestFields) → Contains messages (Request q)
      → ((k : Kept) × Contains list k × IsNamed k.request (name_of q))
      ⊎ MayBePassedOver f messages at (name_of q)

-- ---- suspects: the names that are looked at for the approvals under them

-- Under each other name all approvals count. A name that is listed besides costs time, and changes
-- no report.
abbrev pub AreSuspects : RosterFields Cmnd → List Message → List RequestName → Type 0
AreSuspects f messages names =
    (name : RequestName) → ¬ Contains names name → AllCount f messages name

-- the same of the suspects that are known, if any are
abbrev pub AreKnownSuspects : RosterFields Cmnd → List Message
    → Option (BTreeSet RequestName) → Type 0
AreKnownSuspects f messages None = Unit {0}
AreKnownSuspects f messages (Some names) = AreSuspects f messages names.keys
