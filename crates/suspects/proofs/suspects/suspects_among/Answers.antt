use Rattle.std.proofs.Common.{List, take, sym, subst, inl, inr}
use Rattle.std.specs.List.{Contains}
use Rattle.std.proofs.lemmas.List.{take_all}
use Rattle.std.proofs.lemmas.List.Elements.{Contains-push_cases}
use Rattle.messages.specs.Names.{name_of}
use Rattle.grants.specs.Summaries.{Kept}
use Rattle.outcomes.proofs.Membership.{no_member}
use Rattle.sudo_words.proofs.Lists.{take_next}
use Rattle.suspects.specs.LookedAt.{AllCount}
use Rattle.suspects.proofs.SuspectLemmas.{are_suspects}
use Rattle.suspects.proofs.suspects.suspects_among.Goals as goal

pub loop-summary-init : goal.loop-summary-init
loop-summary-init c = λ set stands k there. absurd (no_member k there)

pub loop-summary-preserved : goal.loop-summary-preserved
loop-summary-preserved c = λ set stands k there other.
    let l = c.loop-summary in
    let list = c.args.summaries.now in
    let i = l.summary-index in
    let item = c.summary-item.result in
    let among = subst (λ (ks : List Kept). Contains ks k) (take_next list i item c.loop-summary-test.true c.summary-item.is) there in
    elim (Contains-push_cases (take i list) item k among) as (λ _. AllCount c.args.roster.now.says set (name_of k.request)) [
      | inl before ↦ l.invariant set stands k before (λ old. other (c.in_ok-add_suspect.ensures.stays (name_of k.request) old))
      | inr last ↦ subst (λ (x : Kept). AllCount c.args.roster.now.says set (name_of x.request)) last
          (c.in_ok-add_suspect.ensures.here set (stands item (i, c.loop-summary-test.true, sym c.summary-item.is))
          (subst (λ (x : Kept). Contains c.add_suspect.new.names.keys (name_of x.request) → ⊥) (sym last) other))
    ]

pub returns : goal.returns
returns c = λ set at are.
    let l = c.loop-summary in
    let list = c.args.summaries.now in
    let all = take_all l.summary-index list c.loop-summary-test.false in
    are_suspects c.args.roster.now.says set at list l.names.keys are
    (λ k there. l.invariant set are.each k (subst (λ (ks : List Kept). Contains ks k) (sym all) there))
