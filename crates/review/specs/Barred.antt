-- Whose approvals of a request do not count, and why (separation of duties, NIST SP 800-53 AC-5).
use Rattle.std.specs.Prelude.{◌≡◌, ℕ, ◌≤◌, true, false, not, List, [], ◌∷◌, ◌++◌}
use Rattle.std.specs.Prelude.{Contains, Option, Some, None, if◌then◌else◌, codes}
use Rattle.std.specs.Str.{bytes_eq}
use Rattle.sudo_words.specs.declared.cmnd.Cmnd.{Cmnd}
use Rattle.messages.specs.Fields.{RequestFields}
use Rattle.messages.specs.Names.{name_of}
use Rattle.messages.specs.declared.message.Message.{Message}
use Rattle.messages.specs.declared.message.Message.TheVariants.{Verdict}
use Rattle.roster.specs.Fields.{CeilingFields, RosterFields}
use Rattle.roster.specs.Relations.{eligible, holds, holds_against}
use Rattle.suspects.specs.LookedAt.{approval}
use Rattle.review.specs.declared.reason.Reason.{Reason}
use Rattle.review.specs.declared.reason.Reason.TheVariants.{Asker, Duty, Conflict}
use Rattle.review.specs.Columns.{left, name_columns}

-- The person approved the request at the moment: that approval is among the messages.
abbrev pub HasApprovedAt : List Message → RequestFields → (person : List ℕ) → (at : ℕ) → Type 0
HasApprovedAt messages q person at = Contains messages (Verdict (approval q person at))

-- the person approved the request at some moment
abbrev pub HasApproved : List Message → RequestFields → (person : List ℕ) → Type 0
HasApproved messages q person = (at : ℕ) × HasApprovedAt messages q person at

-- Why the person's approval at the moment, of what the asker asked for under the ceiling, does not
-- count: the first reason that applies. None where the person is eligible at that moment.
abbrev pub reason : RosterFields Cmnd → CeilingFields Cmnd
    → (asker person : List ℕ) → (at : ℕ) → Option Reason
reason f c asker person at =
    if bytes_eq person asker then Some Asker
    else if not (holds f person c.approve at) then Some Duty
    else if holds_against f person c.approve at then Some Conflict
    else None

-- The person approved at one moment or more and was eligible at none of them; at the earliest, this
-- is the reason why not.
pub record IsBarred (f : RosterFields Cmnd) (c : CeilingFields Cmnd)
    (asker person : List ℕ) (Approved : ℕ → Type 0) (why : Reason) : Type 0 where
  pub first : ℕ
  pub approved : Approved first
  pub earliest : (at : ℕ) → Approved at → first ≤ at
  pub why_is : reason f c asker person first ≡ Some why
  pub never : (at : ℕ) → Approved at → eligible f person asker c at ≡ false

-- the person was eligible at one of the moments of the approvals
pub record WasEligible (f : RosterFields Cmnd) (c : CeilingFields Cmnd)
    (asker person : List ℕ) (Approved : ℕ → Type 0) : Type 0 where
  pub moment : ℕ
  pub approved : Approved moment
  pub eligible_then : eligible f person asker c moment ≡ true

-- why the person is listed under BARRED, or that the person is not
abbrev pub IsWhy : RosterFields Cmnd → CeilingFields Cmnd
    → (asker person : List ℕ) → (Approved : ℕ → Type 0) → Option Reason → Type 0
IsWhy f c asker person Approved None = WasEligible f c asker person Approved
IsWhy f c asker person Approved (Some why) = IsBarred f c asker person Approved why

-- how it is written
abbrev pub reason_text : Reason → List ℕ
reason_text Asker = codes "asker"
reason_text Duty = codes "duty"
reason_text Conflict = codes "conflict"

-- the line of a person who is barred, and none for one who is not
abbrev pub barred_for : RequestFields → (person : List ℕ) → Option Reason → List (List ℕ)
barred_for q person None = []
barred_for q person (Some why) =
    (name_columns (name_of q) ++ codes " " ++ left person ++ codes " " ++ reason_text why) ∷ []

abbrev pub AreBarredLines : RosterFields Cmnd → List Message → CeilingFields Cmnd
    → RequestFields → (person : List ℕ) → List (List ℕ) → Type 0
AreBarredLines f messages c q person lines =
    (why : Option Reason) × IsWhy f c q.by person (HasApprovedAt messages q person) why
    × (lines ≡ barred_for q person why)
