use Rattle.std.proofs.Common.{◌++◌, ℕ, List, ◌∷◌, map, string_bytes, ap, ◌∙◌}
use Rattle.std.specs.Prelude.{codes, decimal}
use Rattle.sudo_words.specs.Moment.{stamp}
use Rattle.findings.specs.Terminal.{line, plain_line}
use Rattle.findings.proofs.PieceLemmas.{piece}
use Rattle.findings.proofs.terminal.push_waiting.Goals as goal

pub returns : goal.returns
returns c =
    let old = string_bytes c.args.out.now in
    let people : List (List ℕ) = map (λ p. p.now) c.args.people.now in
    let one = string_bytes c.push_plain.new.out in
    piece old (plain_line (codes "lacks") (decimal c.args.lacks)) one (line (codes "may") (stamp c.args.at ∷ people)) (string_bytes c.push_may.new.out)
    (c.in_ok-push_plain.ensures ∙ ap (λ (w : List ℕ). old ++ plain_line (codes "lacks") w) (c.as_str.ensures.value ∙ c.in_ok-count.ensures.ok))
    (c.in_ok-push_may.ensures ∙ ap (λ (w : List ℕ). one ++ line (codes "may") (w ∷ people)) (c.as_str-2.ensures.value ∙ c.in_ok-moment.ensures.ok))
