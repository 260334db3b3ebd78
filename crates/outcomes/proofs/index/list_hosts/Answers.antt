use Rattle.std.proofs.Common.{ℕ, List, [], ◌∷◌, take, sym, subst, inl, inr}
use Rattle.std.specs.List.{Contains}
use Rattle.std.proofs.lemmas.List.{take_all}
use Rattle.std.proofs.lemmas.List.Elements.{Contains-append_cases}
use Rattle.sudo_decide.proofs.AnswerLemmas.{take_one_more}
use Rattle.outcomes.specs.private.Index.{endings_at}
use Rattle.outcomes.proofs.Membership.{no_member, Contains-cases}
use Rattle.outcomes.proofs.index.list_hosts.Goals as goal

pub returns-in_err-list_host-clause-stays : goal.returns-in_err-list_host-clause-stays
returns-in_err-list_host-clause-stays c = λ at other among. c.list_host.ensures.stays at other (c.loop-host.invariant.1 at other among)

pub loop-host-preserved : goal.loop-host-preserved
loop-host-preserved c =
    let hosts = c.args.of.now in
    let i = c.loop-host.host-index in
    let item = c.host-item.result in
    let ending = c.args.ending.now in
    let new = c.list_host.new.hosts in (
      λ host among. elim (Contains-append_cases (take i hosts) (item ∷ []) host
          (subst (λ (hs : List (List ℕ)). Contains hs host) (take_one_more hosts i item c.loop-host-test.true c.host-item.is) among))
          as (λ _. Contains (endings_at new host) ending) [
            | inl before ↦ c.list_host.ensures.stays host ending (c.loop-host.invariant.0 host before)
            | inr last ↦ elim (Contains-cases item [] host last) as (λ _. Contains (endings_at new host) ending) [
              | inl same ↦ subst (λ (h : List ℕ). Contains (endings_at new h) ending) same c.in_ok-list_host.ensures.here
              | inr none ↦ absurd (no_member host none)
            ]
          ],
      λ at other among. c.list_host.ensures.stays at other (c.loop-host.invariant.1 at other among),
    )

pub returns-clause-here : goal.returns-clause-here
returns-clause-here c = λ host among. c.loop-host.invariant.0 host
    (subst (λ (hs : List (List ℕ)). Contains hs host) (sym (take_all c.loop-host.host-index c.args.of.now c.loop-host-test.false)) among)
