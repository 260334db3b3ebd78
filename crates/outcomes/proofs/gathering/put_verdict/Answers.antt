use Rattle.std.proofs.Common.{◌≡◌, ◌∙◌, ◌∷◌, ◌++◌, [], Some, None, rules, ap, sym, subst}
use Rattle.std.specs.Prelude.{MatchResult}
use Rattle.messages.specs.Names.{name_meant}
use Rattle.messages.specs.declared.request_name.RequestName.{RequestName}
use Rattle.messages.specs.declared.message.Message.TheVariants.{Verdict}
use Rattle.outcomes.specs.private.ByName.{AreByName, at_name}
use Rattle.outcomes.proofs.ByNameLemmas.{Summaries, verdict_heard, verdict_waits}
use Rattle.outcomes.proofs.GatherLemmas.{named_at}
use Rattle.outcomes.proofs.NameMaps.{SetsAt, sets_from}
use Rattle.outcomes.specs.private.Index.{AreListed}
use Rattle.outcomes.proofs.IndexLemmas.{listed_again}
use Rattle.outcomes.proofs.gathering.put_verdict.Goals as goal
use Rattle.outcomes.proofs.gathering.put_verdict.Goals.{In-Some}

found : (c : In-Some) → at_name c.args.summaries.now (name_meant c.args.verdict.now) ≡ Some c.in-Some.summary.now
found c =
    subst (λ (n : RequestName). at_name c.args.summaries.now n ≡ Some c.in-Some.summary.now) c.in_ok-name.ensures (sym c.in-Some.ensures.value)

pub apply-requires : goal.apply-requires
apply-requires c =
    let same = sym (named_at c.requires.0 c.args.summaries.now c.requires.1.summaries (name_meant c.args.verdict.now) c.in-Some.summary.now (found c)) in
    (ap (λ (n : RequestName). n.by) same, ap (λ (n : RequestName). n.no) same)

pub returns-in-Some-clause-known : goal.returns-in-Some-clause-known
returns-in-Some-clause-known c = λ set by.
    let v = c.args.verdict.now in
    let old = c.args.summaries.now in
    let before = c.in-Some.summary.now in
    let after = c.apply.new.s in
    let new = c.get_mut.follows.lender after in
    let holds = c.get_mut.follows.holds after in
    let sets : SetsAt old new (name_meant v) after =
    subst (λ (n : RequestName). SetsAt old new n after) c.in_ok-name.ensures (sets_from old new c.in_ok-name.name after (holds.3 (search rules))) in
    let there = subst (λ (n : RequestName). at_name old n ≡ Some before) c.in_ok-name.ensures (sym c.in-Some.ensures.value) in
    verdict_heard set v c.apply.result old new c.args.waiting.now before after there
    sets holds.4 c.apply.ensures.same_request c.apply.ensures.ok c.apply.ensures.err by

pub returns-in-None-clause-known : goal.returns-in-None-clause-known
returns-in-None-clause-known c = λ set by.
    let v = c.args.verdict.now in
    let old = c.args.waiting.now in
    let new = c.wait.new.waiting in
    let summaries = c.args.summaries.now in
    let name_is = c.in_ok-name.ensures in
    let bare : at_name summaries (name_meant v) ≡ None = subst (λ (n : RequestName). at_name summaries n ≡ None) name_is (sym c.in-None.ensures.value) in
    let waits = verdict_waits set v c.wait.result summaries old new bare c.wait.ensures.ordered (rw (← name_is) c.wait.ensures.waits)
    (λ other differ. c.wait.ensures.others other (λ same. differ (sym name_is ∙ same))) (rw (← name_is) c.wait.ensures.err) by in
    subst (λ (m : Summaries). MatchResult c.wait.result (λ _. AreByName (set ++ Verdict v ∷ []) m new) (λ _. AreByName set m new))
    (sym c.get_mut.follows.holds-at-none) waits

-- ---- the index

pub returns-in-Some-clause-listed : goal.returns-in-Some-clause-listed
returns-in-Some-clause-listed c = λ index.
    let old = c.args.summaries.now in
    let after = c.apply.new.s in
    let new = c.get_mut.follows.lender after in
    let holds = c.get_mut.follows.holds after in
    let sets = sets_from old new c.in_ok-name.name after (holds.3 (search rules)) in
    listed_again index old new c.in_ok-name.name c.in-Some.summary.now after
    (sym c.in-Some.ensures.value) sets c.apply.ensures.same_request

pub returns-in-None-clause-listed : goal.returns-in-None-clause-listed
returns-in-None-clause-listed c = λ index listed.
    subst (λ (m : Summaries). AreListed index m) (sym c.get_mut.follows.holds-at-none) listed
