use Rattle.std.proofs.Common.{◌≡◌, ◌∙◌, ◌+◌, List, [], ◌∷◌, ◌++◌, map, take, ap, sym, append_assoc}
use Rattle.std.proofs.lemmas.List.{append-nil, map-append, take_all}
use Rattle.messages.specs.Fields.{VerdictFields}
use Rattle.messages.specs.declared.message.Message.{Message}
use Rattle.messages.specs.declared.message.Message.TheVariants.{Verdict}
use Rattle.sudo_decide.proofs.AnswerLemmas.{take_one_more}
use Rattle.outcomes.proofs.GatherLemmas.{of_verdict}
use Rattle.outcomes.proofs.about.push_copies.Goals as goal

pub loop-verdict-init : goal.loop-verdict-init
loop-verdict-init c = sym (append-nil c.args.list.now.items)

pub loop-verdict-preserved : goal.loop-verdict-preserved
loop-verdict-preserved c =
    let vs = c.args.verdicts.now in
    let i = c.loop-verdict.verdict-index in
    let item = c.verdict-item.result in
    let front = c.args.list.now.items in
    let more : map of_verdict (take (i + 1) vs) ≡ map of_verdict (take i vs) ++ Verdict item ∷ [] =
    ap (map of_verdict) (take_one_more vs i item c.loop-verdict-test.true c.verdict-item.is) ∙ map-append of_verdict (take i vs) (item ∷ []) in
    c.in_ok-push.ensures.items
    ∙ ap (λ (v : VerdictFields). c.loop-verdict.list.items ++ Verdict v ∷ []) c.in_ok-clone.ensures.cases
    ∙ ap (λ (ms : List Message). ms ++ Verdict item ∷ []) c.loop-verdict.invariant
    ∙ append_assoc front (map of_verdict (take i vs)) (Verdict item ∷ [])
    ∙ ap (λ (ms : List Message). front ++ ms) (sym more)

pub returns : goal.returns
returns c =
    c.loop-verdict.invariant ∙ ap (λ (vs : List VerdictFields). c.args.list.now.items ++ map of_verdict vs)
    (take_all c.loop-verdict.verdict-index c.args.verdicts.now c.loop-verdict-test.false)
