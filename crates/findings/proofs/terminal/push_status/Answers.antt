use Rattle.std.proofs.Common.{◌++◌, List, ℕ, string_bytes, ap, ◌∙◌}
use Rattle.std.specs.Prelude.{codes}
use Rattle.findings.specs.Judging.{status_word}
use Rattle.findings.specs.Terminal.{name_text, why_text, window_text}
use Rattle.findings.proofs.PieceLemmas.{piece}
use Rattle.findings.proofs.terminal.push_status.Goals as goal

pub returns : goal.returns
returns c =
    let old = string_bytes c.args.out.now in
    let e = c.args.entry.now in
    let a = name_text e.name in
    let b = codes "  " in
    let w = status_word e.status in
    let s = window_text e.status in
    let d = why_text c.args.denial in
    let one = string_bytes c.push_name.new.out in
    let two = string_bytes c.push_str.new.self in
    let three = string_bytes c.push_str-2.new.self in
    let four = string_bytes c.push_window.new.out in
    let five = string_bytes c.push_why.new.out in
    piece old (a ++ b ++ w ++ s ++ d) five (codes "\n") (string_bytes c.push_str-3.new.self)
    (piece old (a ++ b ++ w ++ s) four d five
    (piece old (a ++ b ++ w) three s four
    (piece old (a ++ b) two w three
    (piece old a one b two c.in_ok-push_name.ensures c.in_ok-push_str.ensures.bytes)
    (c.in_ok-push_str-2.ensures.bytes ∙ ap (λ (t : List ℕ). two ++ t) c.status_word.ensures))
    c.in_ok-push_window.ensures)
    c.in_ok-push_why.ensures)
    c.in_ok-push_str-3.ensures.bytes
