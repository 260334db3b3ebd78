-- What contracts see of a desk.
use Rattle.std.specs.Prelude.{ℕ, List}
use Rattle.roster.specs.Fields.{Reading}
use Rattle.sudo_policy.specs.declared.entry.Entry.{Entry}

-- The roster, the base policy, the history of the site, and the keeper, which holds the set of
-- messages. Where no history is known, it is the empty text.
pub record DeskState (K : Type 0) : Type 0 where
  pub roster : Reading
  pub base : List Entry
  pub history : List ℕ
  pub keeper : K
