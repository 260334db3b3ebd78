use Rattle.std.proofs.Common.{◌++◌, ℕ, string_bytes, ap, ◌∙◌}
use Rattle.std.specs.Prelude.{codes}
use Rattle.sudo_words.specs.Moment.{stamp}
use Rattle.findings.specs.Terminal.{headed, span_text}
use Rattle.findings.proofs.PieceLemmas.{piece}
use Rattle.findings.proofs.terminal.push_asked.Goals as goal

pub returns : goal.returns
returns c =
    let old = string_bytes c.args.out.now in
    let q = c.args.request.now in
    let h = headed (codes "asked") in
    let a = stamp q.at in
    let f = codes " for " in
    let s = span_text q.from q.until in
    let one = string_bytes c.push_heading.new.out in
    let two = string_bytes c.write.new.self in
    let three = string_bytes c.push_str.new.self in
    let four = string_bytes c.push_span.new.out in
    piece old (h ++ a ++ f ++ s) four (codes "\n") (string_bytes c.push_str-2.new.self)
    (piece old (h ++ a ++ f) three s four
    (piece old (h ++ a) two f three
    (piece old h one a two c.in_ok-push_heading.ensures
    (c.in_ok-write.ensures.bytes ∙ ap (λ (t : ℕ). one ++ stamp t) c.at.ensures.value))
    c.in_ok-push_str.ensures.bytes)
    (c.in_ok-push_span.ensures ∙ ap (λ (t : ℕ). three ++ span_text t c.until.result) c.from.ensures.value
    ∙ ap (λ (t : ℕ). three ++ span_text q.from t) c.until.ensures.value))
    c.in_ok-push_str-2.ensures.bytes
