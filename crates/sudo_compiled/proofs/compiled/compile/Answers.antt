use Rattle.std.proofs.Common.{List, [], reverse, take, refl, sym, ◌∙◌, subst, inr}
use Rattle.std.proofs.lemmas.List.{take_all}
use Rattle.std.specs.List.{AllByRecursion}
use Rattle.sudo_policy.proofs.Printed.{each_at}
use Rattle.sudo_policy.specs.declared.entry.Entry.{Entry}
use Rattle.sudo_decide.specs.Decision.{DecidesBy}
use Rattle.sudo_decide.proofs.AnswerLemmas.{take_one_more}
use Rattle.sudo_compiled.specs.declared.plain.PlainRule.{PlainRule}
use Rattle.sudo_compiled.specs.Compiled.{answer}
use Rattle.sudo_compiled.specs.private.Writing.{CoversEntry}
use Rattle.sudo_compiled.proofs.compiled.compile.Goals as goal

pub loop-entry-init : goal.loop-entry-init
loop-entry-init c = λ i. subst (λ (rules : List PlainRule). DecidesBy (reverse c.args.p.now) [] i (answer rules i))
    (sym c.in_ok-rules.ensures.items) (inr (record { silent = tt; decision = refl }))

pub loop-entry-preserved : goal.loop-entry-preserved
loop-entry-preserved c = λ i.
    let all = c.entries-entry-items.result.now in
    let p = c.args.p.now in
    let P : Entry → Type 0 = CoversEntry (reverse p) c.in_ok-known.known in
    let whole : AllByRecursion P p = subst (λ (es : List Entry). AllByRecursion (CoversEntry (reverse es) c.in_ok-known.known) es)
    c.entries.ensures.value c.in_ok-known.ensures in
    let each : AllByRecursion P all = subst (AllByRecursion P) (sym c.entries-entry-items.ensures.value) whole in
    let here = subst P (sym c.entry-item.is) (each_at P all c.loop-entry.entry-index c.entry-item.result each c.loop-entry-test.true) in
    let more = take_one_more all c.loop-entry.entry-index c.entry-item.result c.loop-entry-test.true c.entry-item.is in
    subst (λ (es : List Entry). DecidesBy (reverse c.args.p.now) es i (answer c.push_rule.new.rules.items i)) (sym more)
    (c.in_ok-push_rule.ensures (reverse c.args.p.now) (take c.loop-entry.entry-index all) i here (c.loop-entry.invariant i))

pub returns : goal.returns
returns c = λ i.
    let all = c.entries-entry-items.result.now in
    subst (λ (es : List Entry). DecidesBy (reverse c.args.p.now) es i (answer c.loop-entry.rules.items i))
    (take_all c.loop-entry.entry-index all c.loop-entry-test.false ∙ c.entries-entry-items.ensures.value)
    (c.loop-entry.invariant i)
