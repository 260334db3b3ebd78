use Rattle.std.proofs.Common.{◌≡◌, ℕ, true, List, ◌∙◌, take, sym, subst, inl, inr}
use Rattle.std.specs.List.{Contains}
use Rattle.std.proofs.lemmas.List.{take_all}
use Rattle.std.proofs.lemmas.List.Elements.{Contains-push_cases}
use Rattle.roster.specs.Relations.{eligible}
use Rattle.sudo_words.proofs.Lists.{take_next}
use Rattle.suspects.proofs.suspects.all_eligible.Goals as goal

pub loop-person-preserved : goal.loop-person-preserved
loop-person-preserved c = λ person at there.
    let list = c.args.approvals.now in
    let i = c.loop-person.person-index in
    let item = c.loop-person-item.result in
    let f = c.args.roster.now.says in
    let asker = c.args.asker.now in
    let ceiling = c.args.ceiling.now in
    let among = subst (λ (xs : List (List ℕ × ℕ)). Contains xs (person, at)) (take_next list i item c.loop-person-test.true c.loop-person-item.is) there in
    let here : eligible f item.0 asker ceiling item.1 ≡ true = sym c.eligible.ensures ∙ c.if-not-eligible.false in
    elim (Contains-push_cases (take i list) item (person, at) among) as (λ _. eligible f person asker ceiling at ≡ true) [
      | inl before ↦ c.loop-person.invariant person at before
      | inr last ↦ subst (λ (x : List ℕ × ℕ). eligible f x.0 asker ceiling x.1 ≡ true) last here
    ]

pub returns : goal.returns
returns c = λ yes person at there. c.loop-person.invariant person at
    (subst (λ (xs : List (List ℕ × ℕ)). Contains xs (person, at))
    (sym (take_all c.loop-person.person-index c.args.approvals.now c.loop-person-test.false)) there)
