-- Databases that keep the same of a desk.
use Rattle.std.specs.Prelude.{◌≡◌}
use Rattle.sqlite.specs.Effect.{Database}
use Rattle.store_tables.specs.Stored.{IsFree, content_of}
use Rattle.store_tables.specs.Kept.{IsDeskDatabase}

-- The second database keeps the same of a desk as the first, whatever else its schema has.
pub record IsAgain (a b : Database) : Type 0 where
  pub free : IsFree a.schema → IsFree b.schema
  pub desk : IsDeskDatabase a → IsDeskDatabase b
  pub content : content_of b ≡ content_of a
