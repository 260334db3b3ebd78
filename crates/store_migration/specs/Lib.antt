pub mod Migrated
pub mod private
