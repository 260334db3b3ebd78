use Rattle.std.proofs.Common.{◌++◌, string_bytes}
use Rattle.std.specs.Prelude.{codes}
use Rattle.findings.proofs.PieceLemmas.{piece}
use Rattle.findings.proofs.document.push_why.Goals as goal

pub returns : goal.returns
returns c =
    let old = string_bytes c.args.out.now in
    let head = codes ",\"counts\":false,\"why\":\"" in
    let word = c.args.word.now in
    piece old (head ++ word) (string_bytes c.push_str-2.new.self) (codes "\"}") (string_bytes c.push_str-3.new.self)
    (piece old head (string_bytes c.push_str.new.self) word (string_bytes c.push_str-2.new.self)
    c.in_ok-push_str.ensures.bytes c.in_ok-push_str-2.ensures.bytes)
    c.in_ok-push_str-3.ensures.bytes
