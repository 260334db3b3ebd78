pub mod Needs
pub mod Columns
pub mod Barred
pub mod Report
pub mod WorkedReport
pub mod private
