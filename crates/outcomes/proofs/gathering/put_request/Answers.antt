use Rattle.std.proofs.Common.{◌≡◌, Some, None, rules, ap, sym, subst}
use Rattle.messages.specs.Names.{name_of}
use Rattle.messages.specs.declared.request_name.RequestName.{RequestName}
use Rattle.outcomes.specs.private.ByName.{AreByName, IsByName, at_name}
use Rattle.outcomes.proofs.ByNameLemmas.{Summaries, request_again}
use Rattle.outcomes.proofs.GatherLemmas.{named_at}
use Rattle.outcomes.proofs.NameMaps.{SetsAt, sets_from}
use Rattle.outcomes.specs.private.Index.{AreListed}
use Rattle.outcomes.proofs.IndexLemmas.{listed_again}
use Rattle.outcomes.proofs.gathering.put_request.Goals as goal
use Rattle.outcomes.proofs.gathering.put_request.Goals.{In-Some}

found : (c : In-Some) → at_name c.args.summaries.now (name_of c.args.request.now) ≡ Some c.in-Some.summary.now
found c =
    subst (λ (n : RequestName). at_name c.args.summaries.now n ≡ Some c.in-Some.summary.now) c.in_ok-name.ensures (sym c.in-Some.ensures.value)

pub ask_again-requires : goal.ask_again-requires
ask_again-requires c =
    let same = sym (named_at c.requires.0 c.args.summaries.now c.requires.1.summaries (name_of c.args.request.now) c.in-Some.summary.now (found c)) in
    (ap (λ (n : RequestName). n.by) same, ap (λ (n : RequestName). n.no) same)

pub returns-in-Some-clause-known : goal.returns-in-Some-clause-known
returns-in-Some-clause-known c = λ set by.
    let q = c.args.request.now in
    let old = c.args.summaries.now in
    let before = c.in-Some.summary.now in
    let after = c.ask_again.new.s in
    let new = c.get_mut.follows.lender after in
    let holds = c.get_mut.follows.holds after in
    let sets : SetsAt old new (name_of q) after =
    subst (λ (n : RequestName). SetsAt old new n after) c.in_ok-name.ensures (sets_from old new c.in_ok-name.name after (holds.3 (search rules))) in
    let there = subst (λ (n : RequestName). at_name old n ≡ Some before) c.in_ok-name.ensures (sym c.in-Some.ensures.value) in
    request_again set q old new c.args.waiting.now before after there sets holds.4 c.ask_again.ensures.same_request c.ask_again.ensures.stands by

pub put_first-requires-clause-known : goal.put_first-requires-clause-known
put_first-requires-clause-known c =
    subst (λ (m : Summaries). IsByName m c.args.waiting.now) (sym c.get_mut.follows.holds-at-none) c.requires

pub put_first-requires-clause-first : goal.put_first-requires-clause-first
put_first-requires-clause-first c =
    subst (λ (m : Summaries). at_name m c.in_ok-name.name ≡ None) (sym c.get_mut.follows.holds-at-none) (sym c.in-None.ensures.value)

pub returns-in-None-clause-known : goal.returns-in-None-clause-known
returns-in-None-clause-known c = λ set by.
    c.put_first.ensures.known set (subst (λ (m : Summaries). AreByName set m c.args.waiting.now) (sym c.get_mut.follows.holds-at-none) by)

-- ---- the index

pub returns-in-Some-clause-listed : goal.returns-in-Some-clause-listed
returns-in-Some-clause-listed c =
    let old = c.args.summaries.now in
    let after = c.ask_again.new.s in
    let new = c.get_mut.follows.lender after in
    let holds = c.get_mut.follows.holds after in
    let sets = sets_from old new c.in_ok-name.name after (holds.3 (search rules)) in
    listed_again c.args.index.now old new c.in_ok-name.name c.in-Some.summary.now after
    (sym c.in-Some.ensures.value) sets c.ask_again.ensures.same_request

pub returns-in-None-clause-listed : goal.returns-in-None-clause-listed
returns-in-None-clause-listed c = λ listed.
    c.put_first.ensures.listed (subst (λ (m : Summaries). AreListed c.args.index.now m) (sym c.get_mut.follows.holds-at-none) listed)
