use Rattle.std.proofs.Common.{ℕ, List, subst}
use Rattle.std.specs.Prelude.{string_bytes}
use Rattle.std.proofs.lemmas.Result.{err_from_is_err_and}
use Rattle.outcomes.specs.private.Behind.{AreBehind}
use Rattle.outcomes.specs.private.Index.{kept_of, names_lent}
use Rattle.outcomes.proofs.ByNameLemmas.{opened}
use Rattle.outcomes.proofs.FileLemmas.{is_file_left, memory_alone, not_past}
use Rattle.outcomes.proofs.HostRoll.{host_roll}
use Rattle.outcomes.proofs.IndexLemmas.{listed_requests}
use Rattle.outcomes.proofs.host_file.host_file_in.Goals as goal

pub returns-in_err-push_all-clause-few : goal.returns-in_err-push_all-clause-few
returns-in_err-push_all-clause-few c = λ set ls known are few.
    let inside = c.gathered.inside in
    let g = opened set inside.summaries inside.waiting c.args.gathered.now c.gathered.view_is c.gathered.invariant.0 known in
    let p = err_from_is_err_and c.from_residual-in_err-push_all.result c.from_residual-in_err-push_all.ensures.1 in
    let past = c.in_err-push_all.ensures.err set g.summaries in
    rw (p.1, p.2) (memory_alone c.args.roster.now.says set c.args.host.now c.args.after c.in_err-push_all.field-0.0 ls past are few)

pub returns-clause-file : goal.returns-clause-file
returns-clause-file c = λ set known.
    let inside = c.gathered.inside in
    let m = inside.summaries in
    let f = c.args.roster.now.says in
    let host = c.args.host.now in
    let after = c.args.after in
    let g = opened set m inside.waiting c.args.gathered.now c.gathered.view_is c.gathered.invariant.0 known in
    let names = names_lent c.deref.result.now in
    let listed = c.gathered.invariant.1 in
    let roll = host_roll m set g.summaries inside.index host after names listed (rw c.deref.ensures.value c.in_ok-names.ensures) in
    let lines = c.has_lines.ensures set g.summaries (listed_requests inside.index m listed) in
    let new = string_bytes c.push_all.new.text in
    is_file_left f c.args.base.now set host after (kept_of m names) new lines.0 c.requires lines.1 roll
    (subst (λ (t : List ℕ). AreBehind f set host after (kept_of m names) t new)
    c.in_ok-text.ensures.text (c.in_ok-push_all.ensures.ok set g.summaries))

pub returns-clause-many : goal.returns-clause-many
returns-clause-many c = λ set ls known are past.
    let inside = c.gathered.inside in
    let m = inside.summaries in
    let host = c.args.host.now in
    let g = opened set m inside.waiting c.args.gathered.now c.gathered.view_is c.gathered.invariant.0 known in
    let names = names_lent c.deref.result.now in
    let roll = host_roll m set g.summaries inside.index host c.args.after names c.gathered.invariant.1 (rw c.deref.ensures.value c.in_ok-names.ensures) in
    not_past c.args.roster.now.says set host c.args.after (kept_of m names) _ _ ls roll (c.in_ok-push_all.ensures.ok set g.summaries) are past

pub returns-in_err-push_all-clause-err : goal.returns-in_err-push_all-clause-err
returns-in_err-push_all-clause-err c = λ set known.
    let inside = c.gathered.inside in
    let g = opened set inside.summaries inside.waiting c.args.gathered.now c.gathered.view_is c.gathered.invariant.0 known in
    let p = err_from_is_err_and c.from_residual-in_err-push_all.result c.from_residual-in_err-push_all.ensures.1 in
    rw (p.1, p.2) (c.in_err-push_all.ensures.err set g.summaries)
