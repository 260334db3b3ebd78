-- sets of messages
pub use Rattle.store_tables.specs.Sets
pub mod Keeping
pub mod Serving
pub mod Serves
pub mod Faults
-- a keeper in memory
pub mod Memory
pub mod MemoryLaws
-- a keeper over a database
pub use Rattle.store_tables.specs.DeskTables
pub use Rattle.store_tables.specs.Rows
pub use Rattle.store_tables.specs.Stored
pub use Rattle.store_tables.specs.Kept
pub use Rattle.store_tables.specs.SqliteStates
pub use Rattle.store_tables.specs.Causes
pub use Rattle.store_schema.specs.Shapes
pub use Rattle.store_opening.specs.Opened
pub use Rattle.store_migration.specs.Migrated
-- what a crash leaves of a keeper, and of each of the two
pub mod Left
pub mod Crash
pub mod private
