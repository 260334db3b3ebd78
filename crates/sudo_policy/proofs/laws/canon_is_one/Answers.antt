use Rattle.std.proofs.Common.{List, ℕ, sym, subst}
use Rattle.sudo_policy.specs.Printing.{canon}
use Rattle.sudo_policy.specs.Spelling.{Spells}
use Rattle.sudo_policy.proofs.Canon.{canon_spells}
use Rattle.sudo_policy.proofs.One.{text_one}
use Rattle.sudo_policy.proofs.laws.canon_is_one.Goals as goal

pub returns : goal.returns
returns c = λ a b x y e.
    text_one (canon a) a b (canon_spells a x) (subst (λ (text : List ℕ). Spells text b) (sym e) (canon_spells b y))
