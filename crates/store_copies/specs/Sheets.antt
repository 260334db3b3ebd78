-- What a file in memory shows.
use Rattle.std.specs.Prelude.{ℕ, List}
use Rattle.store_copies.specs.declared.sheet.Sheet.{Sheet}

-- its bytes
abbrev pub sheet_bytes : Sheet → List ℕ
sheet_bytes sheet = sheet.bytes.items
