use Rattle.std.proofs.Common.{◌≡◌, ◌++◌, ℕ, List, Option, Some, map, string_bytes, sym, ap, ◌∙◌}
use Rattle.findings.specs.Document.{in_quotes, lacks_json, waiting_json}
use Rattle.findings.specs.Judging.{approvers, asked_at, lacks}
use Rattle.findings.proofs.ListLemmas.{map_twice}
use Rattle.findings.proofs.document.push_lacks.Goals as goal

pub returns : goal.returns
returns c =
    let f = c.args.judged.now.roster.now.says in
    let e = c.args.judged.now.entry.now in
    let old = string_bytes c.args.out.now in
    let n = c.in-Some.lacks in
    let at = c.in-Some-asked_at.at in
    let count : lacks f e ≡ Some n = sym c.lacks.ensures ∙ c.in-Some.is in
    let moment : asked_at f e c.args.until.now ≡ Some at = sym c.asked_at.ensures ∙ c.in-Some-asked_at.is in
    c.in_ok-push_waiting.ensures
    ∙ ap (λ list. old ++ waiting_json n at (map (λ p. in_quotes p.now) list)) c.as_slice.ensures.value
    ∙ ap (λ (ws : List (List ℕ)). old ++ waiting_json n at ws) (map_twice (λ p. p.now) in_quotes c.in_ok-people.people.items)
    ∙ ap (λ (ws : List (List ℕ)). old ++ waiting_json n at (map in_quotes ws)) c.in_ok-people.ensures
    ∙ sym (ap (λ (o : Option ℕ). old ++ lacks_json o (asked_at f e c.args.until.now) (approvers f e)) count
    ∙ ap (λ (o : Option ℕ). old ++ lacks_json (Some n) o (approvers f e)) moment)
