pub mod Props
pub mod SqliteLaws
pub mod Survival
pub mod Showing
pub mod Replacing
pub mod Collected
