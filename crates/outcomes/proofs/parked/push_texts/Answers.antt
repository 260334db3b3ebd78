use Rattle.std.proofs.Common.{◌∙◌, List, ◌++◌, map, ap, sym}
use Rattle.std.specs.Prelude.{string_bytes}
use Rattle.std.proofs.lemmas.List.{append-nil, take_all}
use Rattle.messages.specs.Fields.{VerdictFields}
use Rattle.messages.specs.Wire.{verdict_text}
use Rattle.outcomes.proofs.ParkedLemmas.{one_text_more}
use Rattle.outcomes.proofs.parked.push_texts.Goals as goal

pub loop-verdict-init : goal.loop-verdict-init
loop-verdict-init c = sym (append-nil (map string_bytes c.args.texts.now.items))

pub loop-verdict-preserved : goal.loop-verdict-preserved
loop-verdict-preserved c =
    let vs = c.args.verdicts.now in
    let i = c.loop-verdict.verdict-index in
    let item = c.verdict-item.result in
    one_text_more vs i item c.loop-verdict-test.true c.verdict-item.is (map string_bytes c.args.texts.now.items) c.loop-verdict.texts.items
    c.push.new.self.items c.in_ok-verdict_text.field-0 c.loop-verdict.invariant c.in_ok-verdict_text.ensures c.in_ok-push.ensures.items

pub returns : goal.returns
returns c =
    c.loop-verdict.invariant ∙ ap (λ (vs : List VerdictFields). map string_bytes c.args.texts.now.items ++ map verdict_text vs)
    (take_all c.loop-verdict.verdict-index c.args.verdicts.now c.loop-verdict-test.false)
