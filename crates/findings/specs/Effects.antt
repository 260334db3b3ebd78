-- What became of each verdict on a name: it counts, or why it does not.
use Rattle.std.specs.Prelude.{ℕ, Bool, true, false, ◌&&◌, not, nat_lt, List, [], ◌∷◌, ◌++◌}
use Rattle.std.specs.Prelude.{Option, Some, None, if◌then◌else◌, codes}
use Rattle.std.specs.List.{list_any}
use Rattle.std.specs.Str.{bytes_eq}
use Rattle.sudo_words.specs.declared.cmnd.Cmnd.{Cmnd}
use Rattle.messages.specs.Fields.{VerdictFields}
use Rattle.messages.specs.declared.kind.VerdictKind.{VerdictKind}
use Rattle.messages.specs.declared.kind.VerdictKind.TheVariants.{Approve, Refuse, Revoke}
use Rattle.roster.specs.Fields.{CeilingFields, RosterFields}
use Rattle.grants.specs.Verdicts.{counts}
use Rattle.grants.specs.Weights.{weighed, weight_text}
use Rattle.grants.specs.declared.outcome.Status.{Status}
use Rattle.grants.specs.declared.outcome.Status.TheVariants as statuses
use Rattle.grants.specs.declared.weighing.Weight.{Weight}
use Rattle.grants.specs.declared.weighing.Weight.TheVariants.{Counts, Asker, Duty, Conflict}
use Rattle.findings.specs.declared.effects.Effect.{Effect}
use Rattle.findings.specs.declared.effects.Effect.TheVariants.{Weighs, Late}
use Rattle.findings.specs.declared.effects.Effect.TheVariants.{Lapsed, Disputed, Parked}

-- the word for an effect
abbrev pub effect_text : Effect → List ℕ
effect_text (Weighs w) = weight_text w
effect_text Late = codes "late"
effect_text Lapsed = codes "lapsed"
effect_text Disputed = codes "disputed"
effect_text Parked = codes "parked"

-- ---- approvals

abbrev pub is_approval : VerdictKind → Bool
is_approval Approve = true
is_approval Refuse = false
is_approval Revoke = false

abbrev pub is_refusal : VerdictKind → Bool
is_refusal Approve = false
is_refusal Refuse = true
is_refusal Revoke = false

-- the verdict is an approval, and counts
abbrev pub counts_as_approval : RosterFields Cmnd → CeilingFields Cmnd → VerdictFields → Bool
counts_as_approval f c v = is_approval v.kind && counts f c v

-- one of the verdicts is the person's
abbrev pub is_of_one : List VerdictFields → (person : List ℕ) → Bool
is_of_one vs person = list_any (λ v. bytes_eq v.by person) vs

-- the verdict is an approval that counts, and its author's first
abbrev pub is_first : RosterFields Cmnd → CeilingFields Cmnd
    → (so_far : List VerdictFields) → VerdictFields → Bool
is_first f c so_far v = counts_as_approval f c v && not (is_of_one so_far v.by)

abbrev pub with_first : RosterFields Cmnd → CeilingFields Cmnd
    → (so_far : List VerdictFields) → VerdictFields → List VerdictFields
with_first f c so_far v = if is_first f c so_far v then so_far ++ v ∷ [] else so_far

-- Each person's first approval that counts, in the order of the verdicts, behind those so far.
abbrev pub approvals_after : RosterFields Cmnd → CeilingFields Cmnd
    → (so_far : List VerdictFields) → List VerdictFields → List VerdictFields
approvals_after f c so_far [] = so_far
approvals_after f c so_far (v ∷ vs) = approvals_after f c (with_first f c so_far v) vs

-- the approvals that count under the ceiling, if the roster has it
abbrev pub approvals_under : RosterFields Cmnd → Option (CeilingFields Cmnd)
    → List VerdictFields → List VerdictFields
approvals_under f None vs = []
approvals_under f (Some c) vs = approvals_after f c [] vs

-- ---- effects

-- the verdict is a refusal, and comes after the completion
abbrev pub is_late : Option ℕ → VerdictFields → Bool
is_late None v = false
is_late (Some complete) v = is_refusal v.kind && nat_lt complete v.at

-- what counts may have come too late
abbrev pub effect_by : (late : Bool) → Weight → Effect
effect_by late Counts = if late then Late else Weighs Counts
effect_by late Asker = Weighs Asker
effect_by late Duty = Weighs Duty
effect_by late Conflict = Weighs Conflict

-- on a request that is admitted under the ceiling and was complete at the moment, if it ever was
abbrev pub effect_under : RosterFields Cmnd → Option (CeilingFields Cmnd)
    → (complete : Option ℕ) → VerdictFields → Effect
effect_under f None complete v = Lapsed
effect_under f (Some c) complete v = effect_by (is_late complete v) (weighed f c v)

-- on a name of this status
abbrev pub effect_at : RosterFields Cmnd → Option (CeilingFields Cmnd)
    → (complete : Option ℕ) → Status → VerdictFields → Effect
effect_at f c complete statuses.Disputed v = Disputed
effect_at f c complete statuses.Lapsed v = Lapsed
effect_at f c complete statuses.Refused v = effect_under f c complete v
effect_at f c complete statuses.Waiting v = effect_under f c complete v
effect_at f c complete statuses.Void v = effect_under f c complete v
effect_at f c complete (statuses.Granted w) v = effect_under f c complete v

-- what became of a verdict on a name; without a status, nobody asks
abbrev pub effect : RosterFields Cmnd → Option (CeilingFields Cmnd)
    → (complete : Option ℕ) → Option Status → VerdictFields → Effect
effect f c complete None v = Parked
effect f c complete (Some status) v = effect_at f c complete status v
