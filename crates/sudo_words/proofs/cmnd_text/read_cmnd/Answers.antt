use Rattle.std.proofs.Common.{◌∙◌, sym}
use Rattle.sudo_words.specs.Command.{rule_of}
use Rattle.sudo_words.proofs.ReadingLemmas.{cmnd_found, cmnd_parts, first_word, no_memory, texts_of}
use Rattle.sudo_words.proofs.cmnd_text.read_cmnd.Goals as goal

pub returns-in_err-rule-clause-only : goal.returns-in_err-rule-clause-only
returns-in_err-rule-clause-only c = λ d x e.
    let head = c.in-Some.head.now in
    let args = c.in-Some.args.now in
    let words = first_word c.args.text.now c.in_ok-words.words.items args head c.in_ok-words.ensures (sym c.deref.ensures.value ∙ c.in-Some.ensures.cases.0) in
    let parts = cmnd_parts c.args.text.now head.now (texts_of args) d words x e in
    no_memory c.from_residual-in_err-rule.result c.in_err-rule.field-0.0 _ c.from_residual-in_err-rule.ensures.1
    (c.in_err-rule.ensures.only (rule_of d) x.args parts.1)

pub returns-clause-found : goal.returns-clause-found
returns-clause-found c =
    let head = c.in-Some.head.now in
    let args = c.in-Some.args.now in
    let words = first_word c.args.text.now c.in_ok-words.words.items args head c.in_ok-words.ensures (sym c.deref.ensures.value ∙ c.in-Some.ensures.cases.0) in
    cmnd_found c.args.text.now head.now (texts_of args) c.in_ok-rule.rule c.command_of.result words c.in_ok-rule.ensures.found c.command_of.ensures.found

pub returns-clause-only : goal.returns-clause-only
returns-clause-only c = λ d x e.
    let head = c.in-Some.head.now in
    let args = c.in-Some.args.now in
    let words = first_word c.args.text.now c.in_ok-words.words.items args head c.in_ok-words.ensures (sym c.deref.ensures.value ∙ c.in-Some.ensures.cases.0) in
    let parts = cmnd_parts c.args.text.now head.now (texts_of args) d words x e in
    c.command_of.ensures.only d x parts.0 (c.in_ok-rule.ensures.only (rule_of d) x.args parts.1)
