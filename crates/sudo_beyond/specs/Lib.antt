pub mod Beyond
pub mod Standing
pub mod Cases
pub mod Answer
pub mod Alike
pub mod Worked
pub mod Faults
pub mod private
