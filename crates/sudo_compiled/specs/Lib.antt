pub mod Compiled
pub mod private
