use Rattle.std.proofs.Common.{◌≡◌, ◌∙◌, ℕ, List, Some, None, sym, ap, subst}
use Rattle.messages.specs.Fields.{RequestFields}
use Rattle.messages.specs.Names.{name_of}
use Rattle.roster.specs.Relations.{ceiling_at}
use Rattle.suspects.proofs.SuspectLemmas.{all_count, count_in_dispute, count_under_none, from_not}
use Rattle.suspects.proofs.suspects.is_suspect.Goals as goal

pub returns-in_default : goal.returns-in_default
returns-in_default c = λ set stands is.
    count_in_dispute c.args.roster.now.says set (name_of c.args.summary.now.request) (c.in_default.ensures.disputed set stands)

pub returns-in_default-ceiling : goal.returns-in_default-ceiling
returns-in_default-ceiling c = λ set stands is.
    let f = c.args.roster.now.says in
    let k = c.args.summary.now in
    let label : c.ceiling.result.now ≡ k.request.ceiling = c.ceiling.ensures.value ∙ ap (λ (q : RequestFields). q.ceiling) c.in-Some.ensures.value in
    count_under_none f set k stands
    (subst (λ (l : List ℕ). ceiling_at f l ≡ None) label (sym c.in_default-ceiling.ensures.value))

pub returns : goal.returns
returns c = λ set stands is.
    let f = c.args.roster.now.says in
    let k = c.args.summary.now in
    let ceiling = c.in-Some-ceiling.ceiling.now in
    let label : c.ceiling.result.now ≡ k.request.ceiling = c.ceiling.ensures.value ∙ ap (λ (q : RequestFields). q.ceiling) c.in-Some.ensures.value in
    let asker : c.by.result.now ≡ k.request.by = c.by.ensures.value ∙ ap (λ (q : RequestFields). q.by) c.in-Some.ensures.value in
    let at = subst (λ (l : List ℕ). ceiling_at f l ≡ Some ceiling) label (sym c.in-Some-ceiling.ensures.value) in
    let each = rw (c.deref.ensures.value, asker) at (c.all_eligible.ensures (from_not c.all_eligible.result is)) in
    all_count f set k stands ceiling c.in_ok-approvals.approvals.items at (c.in_ok-approvals.ensures set stands) each
