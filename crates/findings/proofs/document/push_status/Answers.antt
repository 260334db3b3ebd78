use Rattle.std.proofs.Common.{◌++◌, string_bytes}
use Rattle.std.specs.Prelude.{codes}
use Rattle.findings.specs.Document.{denial_json, name_json, window_json, word_json}
use Rattle.findings.proofs.PieceLemmas.{piece}
use Rattle.findings.proofs.document.push_status.Goals as goal

pub returns : goal.returns
returns c =
    let old = string_bytes c.args.out.now in
    let e = c.args.entry.now in
    let a = codes "{" in
    let b = name_json e.name in
    let w = word_json e.status in
    let s = window_json e.status in
    let d = denial_json c.args.denial in
    let one = string_bytes c.push_str.new.self in
    let two = string_bytes c.push_name.new.out in
    let three = string_bytes c.push_word.new.out in
    let four = string_bytes c.push_window.new.out in
    piece old (a ++ b ++ w ++ s) four d (string_bytes c.push_denial.new.out)
    (piece old (a ++ b ++ w) three s four
    (piece old (a ++ b) two w three
    (piece old a one b two c.in_ok-push_str.ensures.bytes c.in_ok-push_name.ensures)
    c.in_ok-push_word.ensures)
    c.in_ok-push_window.ensures)
    c.in_ok-push_denial.ensures
