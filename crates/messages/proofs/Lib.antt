pub mod PlainTexts
pub mod ListTexts
pub mod NumberTexts
pub mod Readings
pub mod Uniqueness
pub mod KindLemmas
mod WorkedTexts
pub mod NameOrder
pub mod OneMessage
pub mod SetsShown
pub mod Passing
