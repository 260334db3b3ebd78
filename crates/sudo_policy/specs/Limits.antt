-- The limits of the desk's profile of sudoers(5).
use Rattle.std.specs.Prelude.{ℕ}

-- a text has at most so many bytes, and so has a policy's canonical text: 16 MiB
abbrev pub most_text_bytes : ℕ
most_text_bytes = 16_777_216

-- a policy has at most so many entries
abbrev pub most_entries : ℕ
most_entries = 16_384

-- a policy weighs at most so much
abbrev pub most_weight : ℕ
most_weight = 131_072

-- an alias is at most so deep
abbrev pub most_depth : ℕ
most_depth = 64
