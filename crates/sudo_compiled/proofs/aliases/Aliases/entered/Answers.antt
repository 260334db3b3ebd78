use Rattle.std.proofs.Common.{List, [], ◌∷◌, reverse, take, sym, ◌∙◌, ap, subst}
use Rattle.std.proofs.lemmas.List.{take_all, reverse-append}
use Rattle.sudo_policy.specs.declared.entry.Entry.{Entry}
use Rattle.sudo_decide.proofs.AnswerLemmas.{take_one_more}
use Rattle.sudo_compiled.specs.private.Used.{is_entry_used}
use Rattle.sudo_compiled.specs.private.Writing.{AreKnown}
use Rattle.sudo_compiled.proofs.Covering.{true_at}
use Rattle.sudo_compiled.proofs.aliases.Aliases.entered.Goals as goal

pub loop-entry-init : goal.loop-entry-init
loop-entry-init c = c.new-known.ensures c.args.used.now

pub loop-entry-preserved : goal.loop-entry-preserved
loop-entry-preserved c =
    let all = c.args.entries.now in
    let used = c.args.used.now in
    let front = take c.loop-entry.entry-index all in
    let entry = c.entry-item.result in
    let here = ap (is_entry_used used) c.entry-item.is ∙ true_at (is_entry_used used) all c.loop-entry.entry-index entry c.requires c.loop-entry-test.true in
    subst (λ (es : List Entry). AreKnown used es c.enter.new.self)
    (sym (ap reverse (take_one_more all c.loop-entry.entry-index entry c.loop-entry-test.true c.entry-item.is) ∙ reverse-append front (entry ∷ [])))
    (c.in_ok-enter.ensures (reverse front) here c.loop-entry.invariant)

pub returns : goal.returns
returns c =
    subst (λ (es : List Entry). AreKnown c.args.used.now (reverse es) c.loop-entry.known)
    (take_all c.loop-entry.entry-index c.args.entries.now c.loop-entry-test.false) c.loop-entry.invariant
