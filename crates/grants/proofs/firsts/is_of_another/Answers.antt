use Rattle.std.proofs.Common.{◌≡◌, map, true, false, refl, sym, ◌∙◌}
use Rattle.std.specs.Str.{bytes_eq}
use Rattle.grants.specs.private.Firsts.{is_of}
use Rattle.grants.proofs.FirstLemmas.{any_shown}
use Rattle.grants.proofs.firsts.is_of_another.Goals as goal

pub returns-then-not-is_of : goal.returns-then-not-is_of
returns-then-not-is_of c =
    let asked = c.is_of.ensures ∙ any_shown (λ p. p.now) (λ person. bytes_eq person c.args.mark.now.person) c.args.others.now in
    let none : is_of (map (λ p. p.now) c.args.others.now) c.args.mark.now ≡ false = sym asked ∙ c.if-not-is_of.true in
    rw none c.count.ensures

pub returns-else-not-is_of : goal.returns-else-not-is_of
returns-else-not-is_of c =
    let asked = c.is_of.ensures ∙ any_shown (λ p. p.now) (λ person. bytes_eq person c.args.mark.now.person) c.args.others.now in
    let some : is_of (map (λ p. p.now) c.args.others.now) c.args.mark.now ≡ true = sym asked ∙ c.if-not-is_of.false in
    rw (some, c.if-not-is_of.false) refl
