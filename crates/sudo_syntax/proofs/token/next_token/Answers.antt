use Rattle.std.proofs.Common.{◌≡◌, ◌<◌, ◌∙◌, length, not, ap, arith, rules}
use Rattle.std.proofs.lemmas.List.{nil_from_length}
use Rattle.sudo_policy.specs.Lex.{is_mark}
use Rattle.sudo_syntax.specs.private.Tokens.{mark_byte}
use Rattle.sudo_policy.proofs.Lexing.{lex_mark}
use Rattle.sudo_syntax.proofs.TokenLemmas.{lex_end, lex_word, lex_none, first_is, mark_is_first, no_word, some_blank}
use Rattle.sudo_syntax.proofs.token.next_token.Goals as goal

pub returns-in_default-clause-first : goal.returns-in_default-clause-first
returns-in_default-clause-first c =
    let s = c.cut_blanks in
    lex_end c.args.bytes.now s.result.0.now s.result.1.now s.ensures (nil_from_length s.result.1.now (omega (arith, c.in_default.len_below)))

pub returns-in-Some-clause-first : goal.returns-in-Some-clause-first
returns-in-Some-clause-first c =
    let s = c.cut_blanks in
    let m = c.in-Some.ensures in
    lex_mark c.args.bytes.now s.result.0.now s.result.1.now s.ensures _ (mark_byte c.in-Some.mark) _
    (ap not c.is_empty-spaced.ensures ∙ some_blank s.result.0.now)
    (ap is_mark m.0 ∙ m.1)
    (mark_is_first s.result.1.now _ c.in-len1-up.len_at_least m.0)

pub returns-then-is_empty-clause-fault : goal.returns-then-is_empty-clause-fault
returns-then-is_empty-clause-fault c =
    let s = c.cut_blanks in
    let w = c.cut_word in
    let none : length w.result.0.now ≡ 0 = search rules in
    lex_none c.args.bytes.now s.result.0.now s.result.1.now c.cut_bangs.result.0.now c.cut_bangs.result.1.now s.ensures _ _
    (first_is s.result.1.now c.in-len1-up.len_at_least) c.in_default-read.ensures c.cut_bangs.ensures (no_word _ w.result.0.now w.result.1.now w.ensures none)

pub returns-clause-first : goal.returns-clause-first
returns-clause-first c =
    let s = c.cut_blanks in
    let b = c.cut_bangs in
    let w = c.cut_word in
    let some : 0 < length w.result.0.now = search rules in
    rw c.text_of-text.ensures (lex_word c.args.bytes.now s.result.0.now s.result.1.now b.result.0.now b.result.1.now w.result.0.now
    w.result.1.now s.ensures b.ensures w.ensures some _ (ap not c.is_empty-spaced.ensures ∙ some_blank s.result.0.now))
