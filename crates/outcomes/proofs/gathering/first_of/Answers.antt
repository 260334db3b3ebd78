use Rattle.std.proofs.Common.{◌≡◌, ◌∙◌, ◌+◌, List, [], ◌∷◌, ◌++◌, map, take, get_or, ap, sym, subst}
use Rattle.std.proofs.lemmas.List.{map-append, take_all}
use Rattle.std.proofs.lemmas.List.Elements.{Contains-get_or}
use Rattle.messages.specs.Fields.{RequestFields, VerdictFields}
use Rattle.messages.specs.Names.{IsAbout}
use Rattle.messages.specs.declared.message.Message.{Message}
use Rattle.messages.specs.declared.message.Message.TheVariants.{Request, Verdict}
use Rattle.grants.specs.Summaries.{StandsFor}
use Rattle.sudo_decide.proofs.AnswerLemmas.{take_one_more}
use Rattle.outcomes.proofs.GatherLemmas.{of_verdict}
use Rattle.outcomes.proofs.gathering.first_of.Goals as goal

pub loop-verdict-init : goal.loop-verdict-init
loop-verdict-init c = (c.in_ok-summary.ensures.same_request, c.in_ok-summary.ensures.stands)

pub apply-requires : goal.apply-requires
apply-requires c =
    let vs = c.args.verdicts.now in
    let i = c.loop-verdict.verdict-index in
    let item = c.verdict-item.result in
    let about : IsAbout c.args.request.now item =
    subst (IsAbout c.args.request.now) (sym c.verdict-item.is) (c.requires (get_or vs i item) (Contains-get_or vs i item c.loop-verdict-test.true)) in
    subst (λ (q : RequestFields). IsAbout q item) (sym c.loop-verdict.invariant.0) about

pub loop-verdict-preserved : goal.loop-verdict-preserved
loop-verdict-preserved c =
    let vs = c.args.verdicts.now in
    let i = c.loop-verdict.verdict-index in
    let item = c.verdict-item.result in
    let q = c.args.request.now in
    let more : map of_verdict (take (i + 1) vs) ≡ map of_verdict (take i vs) ++ Verdict item ∷ [] =
    ap (map of_verdict) (take_one_more vs i item c.loop-verdict-test.true c.verdict-item.is) ∙ map-append of_verdict (take i vs) (item ∷ []) in (
      c.apply.ensures.same_request ∙ c.loop-verdict.invariant.0,
      subst (λ (ms : List Message). StandsFor (Request q ∷ ms) c.apply.new.s) (sym more)
          (c.in_ok-apply.ensures.ok (Request q ∷ map of_verdict (take i vs)) c.loop-verdict.invariant.1),
    )

pub returns-clause-stands : goal.returns-clause-stands
returns-clause-stands c =
    subst (λ (vs : List VerdictFields). StandsFor (Request c.args.request.now ∷ map of_verdict vs) c.loop-verdict.summary)
    (take_all c.loop-verdict.verdict-index c.args.verdicts.now c.loop-verdict-test.false) c.loop-verdict.invariant.1

pub returns-clause-same_request : goal.returns-clause-same_request
returns-clause-same_request c = c.loop-verdict.invariant.0
