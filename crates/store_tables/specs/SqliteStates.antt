-- What a connection to a database shows between the calls of a keeper.
use Rattle.std.specs.Prelude.{◌≡◌, false, IsTrue}
use Rattle.sqlite.specs.State.{State, HasCleanDisk}

-- the disk has been honest, and no failure has shut the store
pub record IsUp (s : State) : Type 0 where
  pub clean : HasCleanDisk s
  pub is_open : IsTrue s.is_open

-- All that is shown is committed, and no transaction has begun.
pub record IsAtRest (s : State) : Type 0 where
  pub settled : s.now ≡ s.committed
  pub autocommit : s.in_transaction ≡ false

abbrev pub Rests : State → Type 0
Rests s = IsUp s → IsAtRest s
