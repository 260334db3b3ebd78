use Rattle.std.proofs.Common.{◌≡◌, ℕ, List, Option, Some, None, MatchOption, sym, ap, subst, ◌∙◌}
use Rattle.sudo_words.specs.declared.cmnd.Cmnd.{Cmnd}
use Rattle.roster.specs.Fields.{CeilingFields}
use Rattle.roster.specs.Relations.{ceiling_at}
use Rattle.grants.specs.Statuses.{NeverComplete}
use Rattle.grants.specs.Summaries.{Kept}
use Rattle.grants.specs.Verdicts.{IsComplete}
use Rattle.grants.proofs.StatusLemmas.{completes}
use Rattle.grants.proofs.request_status.completed_at.Goals as goal

pub returns-in-None : goal.returns-in-None
returns-in-None c = λ set stands. λ moment is.
    let f = c.args.roster.now.says in
    let label = c.ceiling.ensures.value ∙ ap (λ (x : Kept). x.request.ceiling) c.s.view_is in
    let e : ◌≡◌ {A = Option (CeilingFields Cmnd)} None (Some is.approved.ceiling) =
    c.in-None.ensures.value ∙ ap (λ (l : List ℕ). ceiling_at f l) label ∙ is.approved.ceiling_is in
    absurd cc

pub returns-in-Some : goal.returns-in-Some
returns-in-Some c = λ set stands.
    let f = c.args.roster.now.says in
    let k = c.args.s.now in
    let label = c.ceiling.ensures.value ∙ ap (λ (x : Kept). x.request.ceiling) c.s.view_is in
    let under : ceiling_at f k.request.ceiling ≡ Some c.in-Some.ceiling.now =
    sym (c.in-Some.ensures.value ∙ ap (λ (l : List ℕ). ceiling_at f l) label) in
    subst (λ (o : Option ℕ). MatchOption o (NeverComplete f set k.request) (IsComplete f set k.request)) (sym c.completion.ensures)
    (completes f c.in-Some.ceiling.now set k under c.in-Some.ensures.needs.0 stands)
