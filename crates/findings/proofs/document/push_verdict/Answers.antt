use Rattle.std.proofs.Common.{◌++◌, List, ℕ, string_bytes, ap, ◌∙◌}
use Rattle.std.specs.Prelude.{codes}
use Rattle.messages.specs.Wire.{verdict_text}
use Rattle.findings.specs.Document.{effect_json}
use Rattle.findings.proofs.PieceLemmas.{piece}
use Rattle.findings.proofs.document.push_verdict.Goals as goal

pub returns : goal.returns
returns c =
    let old = string_bytes c.args.out.now in
    let head = codes "{\"verdict\":" in
    let text = verdict_text c.args.verdict.now in
    let one = string_bytes c.push_str.new.self in
    let two = string_bytes c.push_str-2.new.self in
    piece old (head ++ text) two (effect_json c.args.effect) (string_bytes c.push_effect.new.out)
    (piece old head one text two c.in_ok-push_str.ensures.bytes
    (c.in_ok-push_str-2.ensures.bytes ∙ ap (λ (t : List ℕ). one ++ t) (c.as_str.ensures.value ∙ c.in_ok-verdict_text.ensures)))
    c.in_ok-push_effect.ensures
