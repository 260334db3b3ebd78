-- What is committed as a message arrives and as the roster changes, whatever a crash leaves.
use Rattle.std.specs.Prelude.{◌≡◌, List, ℕ}
use Rattle.sqlite.specs.Tree.{Trees}
use Rattle.sqlite.specs.Effect.{Database, IsDatabase}
use Rattle.store_tables.specs.Stored.{IsListedAs, content_of, with_roster, with_text}
use Rattle.store_tables.specs.Kept.{IsDeskDatabase, KeepsForeign}

-- the desk with one more message's text, and with the rows of all its messages
pub record Arrives (text : List ℕ) (old new : Database) : Type 0 where
  pub desk : IsDeskDatabase new
  pub content : content_of new ≡ with_text text (content_of old)
  pub foreign : KeepsForeign old.schema old.trees new.trees
  pub listed : IsListedAs old.schema new.schema

-- Any database with these trees is the desk with this text added.
abbrev pub ArrivesAt : List ℕ → Database → Trees → Type 0
ArrivesAt text old trees = (db : Database) → db.trees ≡ trees → IsDatabase db → Arrives text old db

-- the desk with another roster text, the messages that it had, and their rows
pub record Changes (roster : List ℕ) (old new : Database) : Type 0 where
  pub desk : IsDeskDatabase new
  pub content : content_of new ≡ with_roster roster (content_of old)
  pub foreign : KeepsForeign old.schema old.trees new.trees
  pub listed : IsListedAs old.schema new.schema

-- Any database with these trees is the desk with the other roster text.
abbrev pub ChangesAt : List ℕ → Database → Trees → Type 0
ChangesAt roster old trees =
    (db : Database) → db.trees ≡ trees → IsDatabase db → Changes roster old db
