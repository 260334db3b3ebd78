use Rattle.std.proofs.Common.{◌≡◌, ◌∙◌, ◌+◌, List, [], ◌∷◌, ◌++◌, map, take, ap, sym, subst, append_assoc}
use Rattle.std.proofs.lemmas.List.{append-nil, map-append, take_all}
use Rattle.messages.specs.Fields.{VerdictFields}
use Rattle.messages.specs.declared.message.Message.{Message}
use Rattle.messages.specs.declared.message.Message.TheVariants.{Verdict}
use Rattle.sudo_decide.proofs.AnswerLemmas.{take_one_more}
use Rattle.outcomes.specs.Gathered.{AreGathered}
use Rattle.outcomes.proofs.GatherLemmas.{of_verdict}
use Rattle.outcomes.proofs.RowLemmas.{gathered_of_set, requests_of, requests_shown, same_messages}
use Rattle.outcomes.proofs.gathering.Gathered.of_rows.Goals as goal

pub loop-verdict-init : goal.loop-verdict-init
loop-verdict-init c = λ set show. subst (λ (ms : List Message). AreGathered ms c.in_ok-gathered.gathered) (sym (append-nil (requests_of set)))
    (c.in_ok-gathered.ensures (requests_of set) (requests_shown set c.args.names.now c.args.verdicts.now show))

pub loop-verdict-preserved : goal.loop-verdict-preserved
loop-verdict-preserved c = λ set show.
    let vs = c.args.verdicts.now in
    let i = c.loop-verdict.verdict-index in
    let item = c.verdict-item.result in
    let front = requests_of set in
    let more : map of_verdict (take (i + 1) vs) ≡ map of_verdict (take i vs) ++ Verdict item ∷ [] =
    ap (map of_verdict) (take_one_more vs i item c.loop-verdict-test.true c.verdict-item.is) ∙ map-append of_verdict (take i vs) (item ∷ []) in
    let whole : front ++ map of_verdict (take (i + 1) vs) ≡ (front ++ map of_verdict (take i vs)) ++ Verdict item ∷ [] =
    ap (λ (ms : List Message). front ++ ms) more ∙ sym (append_assoc front (map of_verdict (take i vs)) (Verdict item ∷ [])) in
    subst (λ (ms : List Message). AreGathered ms c.hear.new.self) (sym whole)
    (c.in_ok-hear.ensures.ok (front ++ map of_verdict (take i vs)) (c.loop-verdict.invariant set show))

pub returns : goal.returns
returns c = λ set show.
    let vs = c.args.verdicts.now in
    let all = subst (λ (seen : List VerdictFields). AreGathered (requests_of set ++ map of_verdict seen) c.loop-verdict.gathered)
    (take_all c.loop-verdict.verdict-index vs c.loop-verdict-test.false) (c.loop-verdict.invariant set show) in
    gathered_of_set (requests_of set ++ map of_verdict vs) set c.loop-verdict.gathered (same_messages set c.args.names.now vs show) all
