-- what a file in memory shows
pub mod Sheets
