pub mod Faults
pub mod CommandLine
pub mod Operands
pub mod Files
pub mod Ends
pub mod private
