-- Lengths of texts, counted up to one past the limit. For private clauses.
use Rattle.std.specs.Prelude.{ℕ, ◌+◌, min}
use Rattle.sudo_policy.specs.Limits.{most_text_bytes}

-- a length, but at most one more than the most bytes of a policy's text
abbrev pub stopped : ℕ → ℕ
stopped n = min n (most_text_bytes + 1)
