pub mod Parts
pub mod Shapes
pub mod Ready
pub mod References
pub mod Migratable
pub mod Beside
pub mod Founding
pub mod private
