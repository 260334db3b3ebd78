pub mod Clearing
pub mod Moving
