use Rattle.std.proofs.Common.{◌≡◌, ◌∙◌, ◌+◌, List, ℕ, length, ap}
use Rattle.sudo_policy.specs.private.Lengths.{stopped}
use Rattle.sudo_policy.specs.Printing.{comma_separated, signed_text}
use Rattle.sudo_policy.proofs.LengthLemmas.{alias_line_longer}
use Rattle.sudo_policy.proofs.lengths.alias_line_len.Goals as goal

pub returns : goal.returns
returns g c =
    let kind = c.args.kind.now in
    let list = comma_separated (signed_text g.T.Lengthy.text) c.args.list.now in
    let named : c.plus.result ≡ stopped ((length kind + 5) + length c.args.name.now) =
    c.plus.ensures ∙ ap (λ (t : List ℕ). stopped ((length kind + 5) + length t)) c.as_str.ensures.value in
    c.plus-2.ensures
    ∙ ap (λ (n : ℕ). stopped (n + c.list_len.result)) named
    ∙ alias_line_longer kind c.args.name.now list c.list_len.result c.list_len.ensures
