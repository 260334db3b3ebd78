use Rattle.std.proofs.Common.{◌≡◌, ◌++◌, ◌∷◌, ◌∙◌, Bor, List, [], ℕ, ap, codes, drop, map, string_bytes, sym, true}
use Rattle.std.proofs.lemmas.List.{append-nil, append_assoc, drop_all}
use Rattle.findings.specs.Terminal.{beside_heading, headed, wrapped}
use Rattle.findings.proofs.terminal.push_may.Goals as goal

pub returns : goal.returns
returns c =
    let l = c.loop-person in
    let people = c.args.people.now in
    let old = string_bytes c.args.out.now in
    let so_far = string_bytes l.out in
    let heading : List ℕ = headed (codes "may") in
    let words : List ℕ = wrapped beside_heading true (c.args.at.now ∷ map (λ p. p.now) people) in
    let behind : List (Bor (List ℕ)) → List ℕ = λ ps. wrapped l.place.room l.place.is_first (map (λ p. p.now) ps) in
    let none : behind (drop l.person-index people) ≡ [] = ap behind (drop_all l.person-index people c.loop-person-test.false) in
    let written : so_far ≡ (old ++ heading) ++ words = sym (append-nil so_far) ∙ sym (ap (λ t. so_far ++ t) none) ∙ l.invariant in
    c.in_ok-push_str.ensures.bytes ∙ ap (λ t. t ++ codes "\n") written
    ∙ append_assoc (old ++ heading) words (codes "\n") ∙ append_assoc old heading (words ++ codes "\n")
