use Rattle.std.specs.Prelude.{Result, Ok, Err, IfOk}
use Rattle.std.specs.Result.{result_and}
use Rattle.roster.specs.Relations.{IsOrdered}
use Rattle.roster.specs.Faults.{IsRosterText}
use Rattle.roster.proofs.Rising.{ordered_in_texts}
use Rattle.roster.proofs.Texts.{roster_text}
use Rattle.roster.proofs.read.content_by_draft.Goals as goal

-- a value that is returned if a test passes
if_passed : {U E X : Type 0} (r : Result U E) (x : X) (A : Type 0) (P : X → Type 0) → (A → P x) → IfOk r (λ _. A) → IfOk (result_and r (Ok x)) P
if_passed (Ok u) x A P f passed = f passed
if_passed (Err e) x A P f passed = search

pub returns-clause-found : goal.returns-clause-found
returns-clause-found c =
    let content = c.in_ok-content.ensures.1 in
    rw c.and.ensures (if_passed c.tested.result c.in_ok-content.content _ (IsRosterText c.args.text.now)
    (roster_text c.args.text.now c.args.draft.now c.in_ok-content.content c.requires.draft content.0 content.1) c.tested.ensures.kept)

pub returns-clause-ordered : goal.returns-clause-ordered
returns-clause-ordered c =
    rw c.and.ensures (if_passed c.tested.result c.in_ok-content.content _ IsOrdered
    (λ _. ordered_in_texts c.in_ok-content.content c.args.draft.now c.in_ok-content.ensures.1.1 c.requires.ordered) c.tested.ensures.kept)
