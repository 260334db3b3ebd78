-- A number by which names that differ are mostly told apart.
use Rattle.std.specs.Prelude.{ℕ, ◌+◌, ◌-◌, ◌*◌, List, length, slice_index}

-- the last two bytes
abbrev pub tag_of : List ℕ → ℕ
tag_of text = slice_index text (length text - 2) * 256 + slice_index text (length text - 1)
