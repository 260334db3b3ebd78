use Rattle.std.proofs.Common.{rules, ◌≡◌, List, length, [], reverse, sym, ap, ◌∙◌, subst}
use Rattle.std.proofs.lemmas.List.{nil_from_length, reverse-reverse}
use Rattle.std.specs.List.{AllByRecursion}
use Rattle.sudo_policy.specs.declared.entry.Entry.{Entry}
use Rattle.sudo_decide.specs.Decision.{DecidesBy}
use Rattle.sudo_compiled.specs.Compiled.{answer}
use Rattle.sudo_compiled.specs.private.Writing.{CoversEntry}
use Rattle.sudo_compiled.proofs.Taking.{Taken, none_taken, one_taken, all_taken, taken_each}
use Rattle.sudo_compiled.specs.declared.plain.PlainRule.{PlainRule}
use Rattle.sudo_compiled.proofs.compiled.rules_of.Goals as goal

pub loop-entry-init : goal.loop-entry-init
loop-entry-init c = λ defined i covers.
    let rest = c.reverse.new.self.items in
    subst (λ (rules : List PlainRule). Taken defined (reverse rest) rest rules i) (sym c.in_ok-rules.ensures.items) (none_taken defined rest i)

pub loop-entry-preserved : goal.loop-entry-preserved
loop-entry-preserved c = λ defined i covers.
    let all = reverse c.reverse.new.self.items in
    let taken = c.loop-entry.invariant defined i covers in
    let entry = taken_each (CoversEntry defined c.args.known.now) defined all c.loop-entry.rest.items c.pop.new.self.items c.in-Some.entry
    c.loop-entry.rules.items i c.in-Some.ensures.items taken covers in
    subst (λ (rest : List Entry). Taken defined all rest c.take_rule.new.rules.items i) (sym c.give_back.ensures)
    (one_taken defined all c.loop-entry.rest.items c.pop.new.self.items c.in-Some.entry c.loop-entry.rules.items c.take_rule.new.rules.items
    i c.in-Some.ensures.items (λ es. c.in_ok-take_rule.ensures defined es i entry) taken)

pub returns : goal.returns
returns c = λ defined i covers.
    let old = c.loop-entry.rest.items in
    let empty : length old ≡ 0 = search rules in
    let none : old ≡ [] = nil_from_length old empty in
    let all = reverse c.reverse.new.self.items in
    let entries : all ≡ c.args.entries.items = ap reverse c.reverse.ensures.items ∙ reverse-reverse c.args.entries.items in
    let each = subst (AllByRecursion (CoversEntry defined c.args.known.now)) (sym entries) covers in
    subst (λ (es : List Entry). DecidesBy defined es i (answer c.loop-entry.rules.items i)) entries
    (all_taken defined all c.loop-entry.rules.items i (subst
    (λ (rest : List Entry). Taken defined all rest c.loop-entry.rules.items i) none (c.loop-entry.invariant defined i each)))
