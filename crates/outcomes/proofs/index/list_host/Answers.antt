use Rattle.std.proofs.Common.{ℕ, List, Some, rules, sym, subst}
use Rattle.std.specs.BTreeMap.{Updates}
use Rattle.std.specs.Cmp.Lexicographic.{slice_cmp}
use Rattle.std.specs.Ordering.{nat_cmp}
use Rattle.outcomes.specs.private.Index.{Hosts, ending_cmp}
use Rattle.std.specs.List.{Contains}
use Rattle.outcomes.specs.declared.index.Ending.{Ending}
use Rattle.outcomes.proofs.IndexLemmas.{endings_first, endings_more, host_set, inserted_here, inserted_stays, listed_here, same_ending}
use Rattle.outcomes.proofs.index.list_host.Goals as goal

pub returns-in_err-insert-in-Some-clause-stays : goal.returns-in_err-insert-in-Some-clause-stays
returns-in_err-insert-in-Some-clause-stays c =
    let after = c.insert.new.self in
    let hosts = c.args.hosts.now in
    let holds = c.get_mut.follows.holds after in
    host_set hosts (c.get_mut.follows.lender after) c.args.host.now after (holds.3 (search rules))
    (endings_more hosts c.args.host.now c.in-Some.endings.now after.keys (sym c.in-Some.ensures.value)
    (λ other among. subst (λ (ks : List Ending). Contains ks other) (sym c.in_err-insert-in-Some.ensures.err) among))

pub returns-in_ok-insert-in-Some-clause-here : goal.returns-in_ok-insert-in-Some-clause-here
returns-in_ok-insert-in-Some-clause-here c =
    let after = c.insert.new.self in
    let holds = c.get_mut.follows.holds after in
    let ending = c.args.ending.now in
    let here : Contains after.keys ending =
    subst (λ (ks : List Ending). Contains ks ending) (sym c.in_ok-insert-in-Some.ensures.keys)
    (subst (Contains _) c.in_ok-copy.ensures.cases (inserted_here ending_cmp same_ending c.in-Some.endings.now.keys c.in_ok-copy.copy)) in
    listed_here (c.get_mut.follows.lender after) c.args.host.now after ending (holds.3 (search rules)).1 here

pub returns-in_ok-insert-in-Some-clause-stays : goal.returns-in_ok-insert-in-Some-clause-stays
returns-in_ok-insert-in-Some-clause-stays c =
    let after = c.insert.new.self in
    let hosts = c.args.hosts.now in
    let holds = c.get_mut.follows.holds after in
    let before = c.in-Some.endings.now in
    host_set hosts (c.get_mut.follows.lender after) c.args.host.now after (holds.3 (search rules))
    (endings_more hosts c.args.host.now before after.keys (sym c.in-Some.ensures.value) (λ other among.
    subst (λ (ks : List Ending). Contains ks other) (sym c.in_ok-insert-in-Some.ensures.keys)
    (inserted_stays ending_cmp same_ending before.keys c.in_ok-copy.copy other among)))

pub returns-in_ok-insert-in-None-2-clause-stays : goal.returns-in_ok-insert-in-None-2-clause-stays
returns-in_ok-insert-in-None-2-clause-stays c =
    let t = c.insert-in-None.new.self in
    let host = c.args.host.now in
    let new = c.insert-in-None-2.new.self in
    let hosts = c.args.hosts.now in
    let there = subst (λ (m : Hosts). Updates (slice_cmp nat_cmp) m new c.in_ok-copied-in-None.field-0 (Some t)) c.get_mut.follows.holds-at-none
    c.in_ok-insert-in-None-2.ensures.updates in
    let same = subst (λ (h : List ℕ). Updates (slice_cmp nat_cmp) hosts new h (Some t)) c.in_ok-copied-in-None.ensures there in
    host_set hosts new host t same (endings_first hosts host t.keys (sym c.in-None.ensures.value))
