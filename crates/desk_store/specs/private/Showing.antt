-- What a keeper tells of what a database is found to keep.
use Rattle.std.specs.Prelude.{◌≡◌, IfSome}
use Rattle.outcomes.specs.Gathered.{AreGathered}
use Rattle.store_opening.specs.declared.in_database.Contents.{Contents}
use Rattle.store_opening.specs.declared.in_database.InDatabase.{InDatabase}
use Rattle.store_opening.specs.declared.in_database.InDatabase.TheVariants as database
use Rattle.desk_store.specs.Keeping.{IsCountIn}
use Rattle.desk_store.specs.declared.found.Found.{Found}
use Rattle.desk_store.specs.declared.found.Found.TheVariants as found
use Rattle.desk_store.specs.declared.found.FoundDesk.{FoundDesk}

-- the desk's roster, what is known of its messages, and how many they are, if that is told
pub record ShowsDesk (c : Contents) (desk : FoundDesk) : Type 0 where
  pub roster : desk.roster ≡ c.roster
  pub known : IfSome desk.known (AreGathered c.messages.items)
  pub count : IfSome desk.count (IsCountIn c.messages.items)

abbrev pub IsShown : InDatabase → Found → Type 0
IsShown database.Empty told = told ≡ found.Empty
IsShown (database.Desk c) told = (desk : FoundDesk) × (told ≡ found.Desk desk) × ShowsDesk c desk
IsShown (database.Old c) told = told ≡ found.OldDesk
IsShown database.NotADesk told = told ≡ found.NotADesk
