-- A desk's tables have nothing besides columns and keys.
use Rattle.std.specs.Prelude.{◌≡◌, false, []}
use Rattle.sqlite.specs.Table.{Table}

-- no check, no reference, no computed default and no AUTOINCREMENT
pub record IsBare (table : Table) : Type 0 where
  pub checks : table.checks ≡ []
  pub references : table.references ≡ []
  pub computed : table.computed ≡ []
  pub stamps : table.stamps ≡ record { places = []; terms = []; formats = [] }
  pub is_counted : table.is_counted ≡ false
