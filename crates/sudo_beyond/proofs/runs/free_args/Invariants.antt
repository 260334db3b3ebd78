use Rattle.std.proofs.Common.{◌≡◌, ◌∷◌, [], ℕ, ◌<◌, true}
use Rattle.sudo_beyond.specs.Cases.{other, has_args}
use Rattle.sudo_beyond.proofs.runs.free_args.Given as goal

abbrev pub invariant-loop-number : goal.invariant-loop-number
invariant-loop-number l = (k : ℕ) → k < l.number → has_args l.lists (other k ∷ []) ≡ true
