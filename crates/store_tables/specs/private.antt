pub mod Changes
pub mod Stepping
pub mod Turning
pub mod Survival
