-- The contents that a crash leaves in the two files of a store, and what the next opening shows.
use Rattle.std.specs.Prelude.{◌≡◌, IsTrue}
use Rattle.sqlite_disk.specs.declared.Disk.{Ghosts}
use Rattle.sqlite_wal.specs.Recovery.{Image}
use Rattle.sqlite_wal.specs.Reads.{AreClean}
use Rattle.sqlite_wal.specs.Files.{outcomes}
use Rattle.sqlite_trees.specs.View.{IsClean}
use Rattle.sqlite_store.specs.declared.store.FileStore.{FileStore}
use Rattle.sqlite_store.specs.FileStore.{files, recovers, view}
use Rattle.sqlite.specs.Effect.{Database, IsDatabase}
use Rattle.sqlite.specs.Held.{AreDatabases}
use Rattle.sqlite.specs.Start.{FindsIn}
use Rattle.sqlite.specs.State.{State}
use Rattle.desk_store.specs.Crash.{IsFound}
use Rattle.desk_store.specs.Left.{Left}

-- The disk has been honest, and a crash may leave these contents of the log and of the database
-- file: each file has what was synced, with any of the writes since. This is where the hypothesis
-- on disks stands.
abbrev pub MayLeaveFiles : {D : Type 0} {g : Ghosts D} → FileStore D g → Image → Type 0
MayLeaveFiles {D} {g} it image =
    AreClean g (files it).0 (files it).1 × outcomes g (files it).0 (files it).1 image

-- a look at a database that the next opening may show finds this
abbrev pub LeavesDesk : {D : Type 0} {g : Ghosts D} → FileStore D g → Left → Type 0
LeavesDesk it left = (db : Database) × recovers it db.trees × IsDatabase db × IsFound db left

-- As a connection gives a store back: while the disk has been honest, each database that a crash
-- may leave lists a schema and obeys it.
pub record WasConnected {D : Type 0} {g : Ghosts D} (it : FileStore D g) : Type 0 where
  pub numbered : IsClean (view it) → IsTrue (view it).is_numbered
  pub sound : IsClean (view it) → AreDatabases (recovers it)

-- An opening of files with these contents shows what it found in them.
pub record ShowsFound (image : Image) (s : State) : Type 0 where
  pub finds : FindsIn image s
  pub settled : s.now ≡ s.committed
  pub sound : IsDatabase s.now
