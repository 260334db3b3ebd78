use Rattle.std.proofs.Common.{◌≡◌, ℕ, List, [], ◌∷◌, ◌++◌, sym, ap, ◌∙◌, subst}
use Rattle.std.specs.Ordering.{nat_cmp}
use Rattle.std.proofs.lemmas.Grind.{flat_map-append}
use Rattle.sudo_decide.specs.Reach.{rules_in}
use Rattle.sudo_words.specs.Lists.{IsEachOnce}
use Rattle.sudo_beyond.specs.Cases.{turns_of, turns}
use Rattle.sudo_beyond.proofs.moments.moment_cases.Goals as goal

pub returns : goal.returns
returns c =
    let ra = rules_in c.args.a.now in
    let rb = rules_in c.args.b.now in
    let first : ℕ = c.in-Some.first in
    let zero : first ≡ 0 = c.in-Some.ensures.found.0 in
    let all : List ℕ = c.push_turns-2.new.moments.items in
    let made : c.push.new.self.items ≡ 0 ∷ [] =
    c.in_ok-push.ensures.items ∙ ap (λ (xs : List ℕ). xs ++ first ∷ []) c.new-moments.ensures.items ∙ ap (λ (t : ℕ). t ∷ []) zero in
    let with_a : c.push_turns.new.moments.items ≡ 0 ∷ turns ra = c.in_ok-push_turns.ensures ∙ ap (λ (xs : List ℕ). xs ++ turns ra) made in
    let with_b : all ≡ 0 ∷ turns (ra ++ rb) =
    c.in_ok-push_turns-2.ensures ∙ ap (λ (xs : List ℕ). xs ++ turns rb) with_a ∙ ap (λ (xs : List ℕ). 0 ∷ xs) (sym (flat_map-append turns_of ra rb)) in
    subst (λ (xs : List ℕ). IsEachOnce nat_cmp (0 ∷ turns (ra ++ rb)) xs) (sym c.new.ensures)
    (subst (λ (xs : List ℕ). IsEachOnce nat_cmp xs c.in_order.result.items) with_b c.in_order.ensures)
