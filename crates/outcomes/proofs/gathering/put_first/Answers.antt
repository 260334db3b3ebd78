use Rattle.std.proofs.Common.{◌≡◌, ◌∙◌, List, ◌∷◌, None, map, sym, ap, subst}
use Rattle.std.specs.List.{Contains}
use Rattle.std.proofs.lemmas.Result.{err_from_is_err_and}
use Rattle.messages.specs.Fields.{VerdictFields}
use Rattle.messages.specs.Names.{name_of}
use Rattle.messages.specs.declared.request_name.RequestName.{RequestName}
use Rattle.messages.specs.declared.message.Message.TheVariants.{Request}
use Rattle.grants.specs.Summaries.{StandsFor}
use Rattle.outcomes.specs.private.ByName.{at_name, verdicts_at}
use Rattle.outcomes.proofs.ByNameLemmas.{request_first}
use Rattle.outcomes.proofs.GatherLemmas.{gathers_same, of_verdict}
use Rattle.outcomes.proofs.NameMaps.{SetsAt, others_from, sets_from}
use Rattle.outcomes.proofs.IndexLemmas.{listed_first, listed_more, listed_same}
use Rattle.outcomes.proofs.gathering.put_first.Goals as goal

pub first_of-requires : goal.first_of-requires
first_of-requires c = λ v among.
    let by = c.requires.known.1 in
    let there = subst (λ (vs : List VerdictFields). Contains vs v) c.waited.ensures among in
    let meant = ((by.waiting.each c.args.name v).0 there).0 ∙ c.requires.named in
    (ap (λ (n : RequestName). n.by) meant, ap (λ (n : RequestName). n.no) meant)

pub returns-in_err-summary-clause-known : goal.returns-in_err-summary-clause-known
returns-in_err-summary-clause-known c =
    let p = err_from_is_err_and c.from_residual.result c.from_residual.ensures.1 in rw p.1 (λ set by. by)

pub returns-in_err-settled-clause-known : goal.returns-in_err-settled-clause-known
returns-in_err-settled-clause-known c =
    let p = err_from_is_err_and c.from_residual-in_err-settled.result c.from_residual-in_err-settled.ensures.1 in rw p.1 (λ set by. by)

pub returns-in_err-insert-clause-known : goal.returns-in_err-insert-clause-known
returns-in_err-insert-clause-known c =
    let p = err_from_is_err_and c.from_residual-in_err-insert.result c.from_residual-in_err-insert.ensures.1 in
    rw p.1 (λ set by. record {
      summaries = gathers_same set c.args.summaries.now c.insert.new.self c.in_err-insert.ensures.err c.insert.ensures.ordered by.summaries;
      waiting = by.waiting;
    })

pub returns-clause-known : goal.returns-clause-known
returns-clause-known c = λ set by.
    let q = c.args.request.now in
    let old = c.args.summaries.now in
    let new = c.insert.new.self in
    let waiting = c.args.waiting.now in
    let taken = c.remove-part_of_it.new.self in
    let name_is = c.requires.named in
    let k = c.in_ok-summary.summary in
    let bare : at_name old (name_of q) ≡ None = subst (λ (n : RequestName). at_name old n ≡ None) name_is c.requires.first in
    let sets : SetsAt old new (name_of q) k =
    subst (λ (n : RequestName). SetsAt old new n k) name_is (sets_from old new c.args.name k c.in_ok-insert.ensures.updates) in
    let stands : StandsFor (Request q ∷ map of_verdict (verdicts_at waiting (name_of q))) k =
    subst (λ (vs : List VerdictFields). StandsFor (Request q ∷ map of_verdict vs) k)
    (c.waited.ensures ∙ ap (verdicts_at waiting) name_is) c.in_ok-summary.ensures.stands in
    let settled_is = c.in_ok-settled.ensures.cases ∙ name_is in
    let gone : at_name taken (name_of q) ≡ None = subst (λ (n : RequestName). at_name taken n ≡ None) settled_is c.remove-part_of_it.ensures.updates.1 in
    let others = others_from waiting taken c.in_ok-settled.settled None c.remove-part_of_it.ensures.updates in
    request_first set q old new waiting taken k bare sets c.in_ok-insert.ensures.ordered c.in_ok-summary.ensures.same_request
    stands c.remove-part_of_it.ensures.ordered gone (λ other differ. others other (λ same. differ (sym settled_is ∙ same))) by

-- ---- the index

pub returns-in_err-list-clause-listed : goal.returns-in_err-list-clause-listed
returns-in_err-list-clause-listed c =
    listed_more c.args.index.now c.list.new.self c.args.summaries.now c.list.ensures.stays

pub returns-in_err-settled-clause-listed : goal.returns-in_err-settled-clause-listed
returns-in_err-settled-clause-listed c =
    listed_more c.args.index.now c.list.new.self c.args.summaries.now c.list.ensures.stays

pub returns-in_err-insert-clause-listed : goal.returns-in_err-insert-clause-listed
returns-in_err-insert-clause-listed c = λ listed.
    let more = listed_more c.args.index.now c.list.new.self c.args.summaries.now c.list.ensures.stays listed in
    listed_same c.list.new.self c.args.summaries.now c.insert.new.self c.in_err-insert.ensures.err more

pub returns-clause-listed : goal.returns-clause-listed
returns-clause-listed c =
    let old = c.args.summaries.now in
    let new = c.insert.new.self in
    let k = c.in_ok-summary.summary in
    let sets = sets_from old new c.args.name k c.in_ok-insert.ensures.updates in
    listed_first c.args.index.now c.list.new.self old new c.args.name k c.args.request.now sets c.in_ok-summary.ensures.same_request
    c.in_ok-list.ensures.here c.list.ensures.stays
