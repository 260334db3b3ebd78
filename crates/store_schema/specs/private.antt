pub mod Bare
pub mod Making
