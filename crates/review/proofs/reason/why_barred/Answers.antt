use Rattle.std.proofs.Common.{◌≡◌, Bool, true, false, not, if◌then◌else◌, Option, Some, None, refl, ap, ◌∙◌}
use Rattle.std.specs.Str.{bytes_eq}
use Rattle.roster.specs.Relations.{holds, holds_against}
use Rattle.grants.specs.declared.weighing.Weight.{Weight}
use Rattle.grants.specs.declared.weighing.Weight.TheVariants.{Counts}
use Rattle.grants.specs.declared.weighing.Weight.TheVariants as weights
use Rattle.review.specs.declared.reason.Reason.{Reason}
use Rattle.review.specs.declared.reason.Reason.TheVariants.{Asker, Duty, Conflict}
use Rattle.review.specs.private.Whys.{reason_of}
use Rattle.review.proofs.reason.why_barred.Goals as goal

-- by the three tests: the person asked, holds the duty, and holds one against it
abbrev reason_by : (own held against : Bool) → Option Reason
reason_by own held against = if own then Some Asker else if not held then Some Duty else if against then Some Conflict else None

abbrev weight_by : (own held against : Bool) → Weight
weight_by own held against = if own then weights.Asker else if not held then weights.Duty else if against then weights.Conflict else Counts

same : (own held against : Bool) → reason_of (weight_by own held against) ≡ reason_by own held against
same true held against = refl
same false false against = refl
same false true true = refl
same false true false = refl

pub returns : goal.returns
returns c =
    let f = c.args.roster.now.says in
    let person = c.args.person.now in
    let duty = c.args.ceiling.now.approve in
    c.reason_of.ensures
    ∙ ap (λ (w : Weight). reason_of w) c.weight_of.ensures
    ∙ same (bytes_eq person c.args.asker.now) (holds f person duty c.args.at) (holds_against f person duty c.args.at)
