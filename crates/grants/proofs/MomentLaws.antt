-- A verdict counts by the rights of its own moment.
use Rattle.std.proofs.Common.{◌≡◌, ℕ, ◌≤◌, List, refl, arith}
use Rattle.sudo_words.specs.declared.cmnd.Cmnd.{Cmnd}
use Rattle.messages.specs.Fields.{RequestFields, VerdictFields}
use Rattle.messages.specs.declared.message.Message.{Message}
use Rattle.messages.specs.declared.kind.VerdictKind.{VerdictKind}
use Rattle.messages.specs.declared.kind.VerdictKind.TheVariants.{Approve, Refuse, Revoke}
use Rattle.roster.specs.Fields.{CeilingFields, RosterFields}
use Rattle.roster.specs.Relations.{eligible, may_revoke}
use Rattle.grants.specs.Completion.{IsFirstApproval}
use Rattle.grants.specs.Verdicts.{may_give, counts, IsGiven, HasGiven}
use Rattle.grants.proofs.NthSmallest.{first_approval}

pub alike : (f g : RosterFields Cmnd) (c : CeilingFields Cmnd) (v : VerdictFields) → eligible f v.by v.of c v.at ≡ eligible g v.by v.of c v.at
    → may_revoke f v.by v.of c v.at ≡ may_revoke g v.by v.of c v.at → counts f c v ≡ counts g c v
alike f g c v approves revokes = of v.kind
  where
    of : (kind : VerdictKind) → may_give f c kind v.by v.of v.at ≡ may_give g c kind v.by v.of v.at
    of Approve = approves
    of Refuse = approves
    of Revoke = revokes

by_itself : (f : RosterFields Cmnd) (set : List Message) (q : RequestFields) (v : VerdictFields)
    → IsGiven f set q Approve v → HasGiven f set q Approve v.at v.by
by_itself f set q v g = record { verdict = v; given = g; by_is = refl; by_then = omega arith }

pub has_first : (f : RosterFields Cmnd) (set : List Message) (q : RequestFields) (v : VerdictFields)
    → IsGiven f set q Approve v → (moment : ℕ) × IsFirstApproval f set q v.by moment × (moment ≤ v.at)
has_first f set q v g = first_approval f g.ceiling set q v.by v.at g.ceiling_is (by_itself f set q v g)

pub first_given : (f : RosterFields Cmnd) (set : List Message) (q : RequestFields) (person : List ℕ) (moment : ℕ)
    → IsFirstApproval f set q person moment → (v : VerdictFields) × IsGiven f set q Approve v × (v.by ≡ person) × (v.at ≡ moment)
first_given f set q person moment is =
    let h = is.given in
    let low : moment ≤ h.verdict.at = is.least h.verdict.at (record { verdict = h.verdict; given = h.given; by_is = h.by_is; by_then = omega arith }) in
    (h.verdict, h.given, h.by_is, omega (arith, low, h.by_then))
