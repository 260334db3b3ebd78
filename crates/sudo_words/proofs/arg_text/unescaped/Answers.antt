use Rattle.std.proofs.Common.{◌∙◌, length, sym}
use Rattle.std.specs.Prelude.{string_bytes}
use Rattle.std.proofs.lemmas.Bool.{eqb-true, eq-eqb, false≢true}
use Rattle.sudo_words.proofs.ReadingLemmas.{read_stuck, read_whole}
use Rattle.sudo_words.proofs.arg_text.unescaped.Goals as goal

pub returns-else-is_empty-clause-only : goal.returns-else-is_empty-clause-only
returns-else-is_empty-clause-only c = λ a h e.
    let loop = c.loop-byte.invariant in
    let none = read_stuck c.args.text.now (string_bytes c.loop-byte.out) c.loop-byte.left.now a loop.bytes h loop.whole e
    (λ b more is front. false≢true (c.in_default.ensures.only b more is front)) in
    absurd (false≢true (sym c.if-is_empty.false ∙ c.is_empty.ensures ∙ eq-eqb (length c.loop-byte.left.now) 0 none))

pub returns-then-is_empty-clause-only : goal.returns-then-is_empty-clause-only
returns-then-is_empty-clause-only c = λ a h e.
    let loop = c.loop-byte.invariant in
    read_whole c.args.text.now (string_bytes c.loop-byte.out) c.loop-byte.left.now a loop.bytes h loop.whole e
    (eqb-true (length c.loop-byte.left.now) 0 (sym c.is_empty.ensures ∙ c.if-is_empty.true))
