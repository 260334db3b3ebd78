use Rattle.std.proofs.Common.{◌++◌, string_bytes}
use Rattle.std.specs.Prelude.{codes}
use Rattle.findings.specs.Terminal.{name_text, span_text}
use Rattle.findings.proofs.PieceLemmas.{piece}
use Rattle.findings.proofs.terminal.push_host_window.Goals as goal

pub returns : goal.returns
returns c =
    let old = string_bytes c.args.out.now in
    let w = c.args.window.now in
    let a = codes "  " in
    let s = span_text w.start w.end in
    let n = name_text (record { by = w.by; no = w.no }) in
    let one = string_bytes c.push_str.new.self in
    let two = string_bytes c.push_span.new.out in
    let three = string_bytes c.push_str-2.new.self in
    let four = string_bytes c.push_name.new.out in
    piece old (a ++ s ++ a ++ n) four (codes "\n") (string_bytes c.push_str-3.new.self)
    (piece old (a ++ s ++ a) three n four
    (piece old (a ++ s) two a three
    (piece old a one s two c.in_ok-push_str.ensures.bytes c.in_ok-push_span.ensures)
    c.in_ok-push_str-2.ensures.bytes)
    c.in_ok-push_name.ensures)
    c.in_ok-push_str-3.ensures.bytes
