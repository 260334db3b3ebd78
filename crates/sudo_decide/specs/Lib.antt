pub mod Decision
pub mod Answered
pub mod Kinds
pub mod Reach
pub mod Worked
