use Rattle.std.proofs.Common.{◌≡◌, ◌++◌, ℕ, ◌<◌, true}
use Rattle.sudo_beyond.specs.Cases.{other, has_word}
use Rattle.sudo_beyond.proofs.runs.free_file.Given as goal

abbrev pub invariant-loop-number : goal.invariant-loop-number
invariant-loop-number l = (k : ℕ) → k < l.number → has_word l.files (l.dir ++ other k) ≡ true
