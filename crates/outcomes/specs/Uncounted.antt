-- When somebody's verdict does not count (separation of duties, NIST SP 800-53 AC-5).
use Rattle.std.specs.Prelude.{◌≡◌, ℕ, true, false, List, Contains, Some}
use Rattle.sudo_words.specs.declared.cmnd.Cmnd.{Cmnd}
use Rattle.messages.specs.Fields.{RequestFields, VerdictFields}
use Rattle.messages.specs.Names.{IsAbout}
use Rattle.messages.specs.declared.message.Message.{Message}
use Rattle.messages.specs.declared.message.Message.TheVariants.{Request}
use Rattle.roster.specs.Fields.{CeilingFields, RosterFields}
use Rattle.roster.specs.Relations.{ceiling_at, conflicting, holds, may_revoke}

-- P holds for the ceiling of each request of the set that the verdict is about
abbrev pub UnderEachCeiling : RosterFields Cmnd → List Message
    → VerdictFields → (CeilingFields Cmnd → Type 0) → Type 0
UnderEachCeiling f messages v P =
    (q : RequestFields) (c : CeilingFields Cmnd) → Contains messages (Request q)
    → IsAbout q v → ceiling_at f q.ceiling ≡ Some c → P c

-- Whoever gives the verdict holds a duty at its moment that conflicts with the approving duty.
abbrev pub HoldsConflicting : RosterFields Cmnd → List Message → VerdictFields → Type 0
HoldsConflicting f messages v =
    UnderEachCeiling f messages v
    (λ c. (duty : List ℕ) × (holds f v.by duty v.at ≡ true) × (conflicting f duty c.approve ≡ true))

-- Whoever gives the verdict may not revoke at its moment.
abbrev pub MayNotRevoke : RosterFields Cmnd → List Message → VerdictFields → Type 0
MayNotRevoke f messages v =
    UnderEachCeiling f messages v (λ c. may_revoke f v.by v.of c v.at ≡ false)
