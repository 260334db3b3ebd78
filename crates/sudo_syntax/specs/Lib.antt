-- laws in the subject's words, and worked texts
pub mod Inherited
pub mod Alike
pub mod Apart
pub mod Worked
pub mod Doubling
pub mod private
