pub mod Opened
pub mod Statements
pub mod private
