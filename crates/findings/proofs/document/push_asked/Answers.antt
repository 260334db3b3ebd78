use Rattle.std.proofs.Common.{◌++◌, string_bytes}
use Rattle.std.specs.Prelude.{codes, decimal}
use Rattle.sudo_words.specs.Moment.{stamp}
use Rattle.findings.proofs.PieceLemmas.{piece}
use Rattle.findings.proofs.document.push_asked.Goals as goal

pub returns : goal.returns
returns c =
    let old = string_bytes c.args.out.now in
    let p = codes ",\"lacks\":" in
    let q = decimal c.args.lacks in
    let r = codes ",\"may_approve\":{\"at\":\"" in
    let s = stamp c.args.at in
    let t = codes "\",\"people\":[" in
    let one = string_bytes c.push_str.new.self in
    let two = string_bytes c.write.new.self in
    let three = string_bytes c.push_str-2.new.self in
    let four = string_bytes c.write-2.new.self in
    piece old (p ++ q ++ r ++ s) four t (string_bytes c.push_str-3.new.self)
    (piece old (p ++ q ++ r) three s four
    (piece old (p ++ q) two r three
    (piece old p one q two c.in_ok-push_str.ensures.bytes c.in_ok-write.ensures.bytes)
    c.in_ok-push_str-2.ensures.bytes)
    c.in_ok-write-2.ensures.bytes)
    c.in_ok-push_str-3.ensures.bytes
