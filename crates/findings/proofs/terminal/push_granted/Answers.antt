use Rattle.std.proofs.Common.{string_bytes}
use Rattle.std.specs.Prelude.{codes}
use Rattle.findings.specs.Terminal.{span_text}
use Rattle.findings.proofs.PieceLemmas.{piece}
use Rattle.findings.proofs.terminal.push_granted.Goals as goal

pub returns : goal.returns
returns c =
    let w = c.args.window.now in
    piece (string_bytes c.args.out.now) (codes " ") (string_bytes c.push_str.new.self) (span_text w.start w.end) (string_bytes c.push_span.new.out)
    c.in_ok-push_str.ensures.bytes c.in_ok-push_span.ensures
