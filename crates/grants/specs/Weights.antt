-- What a verdict weighs: it counts, or why it does not (separation of duties, NIST SP 800-53 AC-5).
use Rattle.std.specs.Prelude.{ℕ, not, List, if◌then◌else◌, codes}
use Rattle.std.specs.Str.{bytes_eq}
use Rattle.sudo_words.specs.declared.cmnd.Cmnd.{Cmnd}
use Rattle.messages.specs.Fields.{VerdictFields}
use Rattle.messages.specs.declared.kind.VerdictKind.{VerdictKind}
use Rattle.messages.specs.declared.kind.VerdictKind.TheVariants.{Approve, Refuse, Revoke}
use Rattle.roster.specs.Fields.{CeilingFields, RosterFields}
use Rattle.roster.specs.Relations.{holds, holds_against, may_revoke}
use Rattle.grants.specs.declared.weighing.Weight.{Weight}
use Rattle.grants.specs.declared.weighing.Weight.TheVariants.{Counts, Asker, Duty, Conflict}

-- of an approval or a refusal at the moment: the first reason against it that applies
abbrev pub answer_weight : RosterFields Cmnd → CeilingFields Cmnd
    → (person asker : List ℕ) → (at : ℕ) → Weight
answer_weight f c person asker at =
    if bytes_eq person asker then Asker
    else if not (holds f person c.approve at) then Duty
    else if holds_against f person c.approve at then Conflict
    else Counts

-- of a revocation: nothing but the duty is asked, and of the asker not even that
abbrev pub revocation_weight : RosterFields Cmnd → CeilingFields Cmnd
    → (person asker : List ℕ) → (at : ℕ) → Weight
revocation_weight f c person asker at = if may_revoke f person asker c at then Counts else Duty

-- What a verdict of the kind weighs that the person gives at the moment, on what the asker asked
-- for under the ceiling.
abbrev pub weight_of : RosterFields Cmnd → CeilingFields Cmnd
    → VerdictKind → (person asker : List ℕ) → (at : ℕ) → Weight
weight_of f c Approve person asker at = answer_weight f c person asker at
weight_of f c Refuse person asker at = answer_weight f c person asker at
weight_of f c Revoke person asker at = revocation_weight f c person asker at

-- the verdict's, by its author's rights at its own moment
abbrev pub weighed : RosterFields Cmnd → CeilingFields Cmnd → VerdictFields → Weight
weighed f c v = weight_of f c v.kind v.by v.of v.at

-- the word for it
abbrev pub weight_text : Weight → List ℕ
weight_text Counts = codes "counts"
weight_text Asker = codes "asker"
weight_text Duty = codes "duty"
weight_text Conflict = codes "conflict"
