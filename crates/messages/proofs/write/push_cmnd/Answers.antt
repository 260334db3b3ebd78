use Rattle.std.proofs.Common.{◌++◌, List, ℕ, ap, ◌∙◌, string_bytes}
use Rattle.serde_json.specs.Data.{string}
use Rattle.serde_json.specs.Written.{compact_text, has_float}
use Rattle.messages.proofs.PlainTexts.{said_cmnd, view_string}
use Rattle.messages.proofs.write.push_cmnd.Goals as goal

pub returns : goal.returns
returns c =
    let value = view_string c.in_ok-print_cmnd.field-0 in
    let said =
    c.in_ok-text.ensures.text (ap has_float value) ∙ ap compact_text value ∙ ap (λ (w : List ℕ). compact_text (string w)) c.in_ok-print_cmnd.ensures
    ∙ said_cmnd c.args.cmnd.now c.requires in
    c.in_ok-push_str.ensures.bytes ∙ ap (λ (w : List ℕ). string_bytes c.args.out.now ++ w) (c.deref.ensures ∙ said)
