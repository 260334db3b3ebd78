-- Tests made one after another, each only if those before it pass.
use Rattle.std.proofs.Common.{◌≡◌, ◌∙◌, Bool, true, false, ◌&&◌, sym, ap}

pub passed : (first a b : Bool) (both : Bool) → first ≡ true → first ≡ a → both ≡ b → both ≡ (a && b)
passed first a b both so is same = same ∙ ap (λ t. t && b) (sym so ∙ is)

pub failed : (first a b : Bool) (both : Bool) → first ≡ false → first ≡ a → both ≡ first → both ≡ (a && b)
failed first a b both so is same = same ∙ so ∙ ap (λ t. t && b) (sym so ∙ is)
