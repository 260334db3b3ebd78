use Rattle.std.proofs.Common.{◌++◌, List, ℕ, string_bytes, ap, ◌∙◌, append_assoc}
use Rattle.std.specs.Prelude.{codes}
use Rattle.review.specs.Needs.{need_text}
use Rattle.review.specs.Report.{grant_columns, span_columns}
use Rattle.review.proofs.live.push_live_line.Goals as goal

pub returns : goal.returns
returns c =
    let old = string_bytes c.args.out.now in
    let grant = grant_columns c.args.request.now in
    let span = span_columns c.args.window.now in
    let need = need_text c.args.need in
    c.in_ok-push_str-2.ensures.bytes
    ∙ ap (λ (t : List ℕ). t ++ codes "\n") (
    c.in_ok-push_str.ensures.bytes
    ∙ ap (λ (t : List ℕ). string_bytes c.push_span.new.out ++ t) c.text.ensures
    ∙ ap (λ (t : List ℕ). t ++ need) (c.in_ok-push_span.ensures ∙ ap (λ (t : List ℕ). t ++ span) c.in_ok-push_grant.ensures)
    ∙ ap (λ (t : List ℕ). t ++ need) (append_assoc old grant span)
    ∙ append_assoc old (grant ++ span) need
    )
