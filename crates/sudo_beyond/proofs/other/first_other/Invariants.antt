use Rattle.std.proofs.Common.{◌≡◌, ℕ, ◌<◌, true}
use Rattle.sudo_beyond.specs.Cases.{other, has_word}
use Rattle.sudo_beyond.proofs.other.first_other.Given as goal

abbrev pub invariant-loop-number : goal.invariant-loop-number
invariant-loop-number g l = (k : ℕ) → k < l.number → has_word l.standing (other k) ≡ true
