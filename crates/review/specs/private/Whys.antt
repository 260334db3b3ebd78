-- Why none of a person's approvals counts, person by person, going through the list of approvals;
-- only private clauses cite this.
use Rattle.std.specs.Prelude.{ℕ, List, [], ◌∷◌, ◌++◌, Option, Some, None, if◌then◌else◌}
use Rattle.std.specs.List.{flat_map}
use Rattle.std.specs.Str.{bytes_eq}
use Rattle.messages.specs.Fields.{RequestFields}
use Rattle.review.specs.declared.barred.Approver.{Approver}
use Rattle.grants.specs.declared.weighing.Weight.{Weight}
use Rattle.grants.specs.declared.weighing.Weight.TheVariants.{Counts}
use Rattle.grants.specs.declared.weighing.Weight.TheVariants as weights
use Rattle.review.specs.declared.reason.Reason.{Reason}
use Rattle.review.specs.declared.reason.Reason.TheVariants.{Asker, Duty, Conflict}
use Rattle.review.specs.Barred.{barred_for}
use Rattle.review.specs.Columns.{lines_text}

-- the reason of an approval's weight
abbrev pub reason_of : Weight → Option Reason
reason_of Counts = None
reason_of weights.Asker = Some Asker
reason_of weights.Duty = Some Duty
reason_of weights.Conflict = Some Conflict

-- why the first of a person's approvals does not count, unless it or one of the later ones counts
abbrev pub both : (first later : Option Reason) → Option Reason
both None later = None
both (Some why) None = None
both (Some why) (Some other) = Some why

-- a person's approval put before the approvals of people: one more by the first of them, or one by
-- somebody else
abbrev pub joined : (person : List ℕ) → Option Reason
    → List (List ℕ × Option Reason) → List (List ℕ × Option Reason)
joined person why [] = (person, why) ∷ []
joined person why (w ∷ ws) =
    if bytes_eq w.0 person then (person, both why w.1) ∷ ws else (person, why) ∷ w ∷ ws

-- the people of a list of approvals, each with why none of the approvals counts
abbrev pub whys : (reason_at : (person : List ℕ) → (at : ℕ) → Option Reason)
    → List (List ℕ × ℕ) → List (List ℕ × Option Reason)
whys reason_at [] = []
whys reason_at (a ∷ others) = joined a.0 (reason_at a.0 a.1) (whys reason_at others)

-- the approvals of the approver so far, if there is one, put before those of people
abbrev pub before : Option Approver → List (List ℕ × Option Reason) → List (List ℕ × Option Reason)
before None ws = ws
before (Some last) ws = joined last.person.now last.why ws

-- a text with the lines of these people
abbrev pub with_lines : RequestFields → (text : List ℕ) → List (List ℕ × Option Reason) → List ℕ
with_lines q text ws = text ++ lines_text (flat_map (λ w. barred_for q w.0 w.1) ws)
