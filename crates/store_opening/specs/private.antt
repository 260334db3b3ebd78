pub mod Rows
pub mod Compare
pub mod Names
pub mod Selecting
pub mod Reading
pub mod Judged
pub mod Showing
