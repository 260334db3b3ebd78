pub mod Spans
pub mod PolicyFronts
pub mod WordTexts
pub mod Lexing
pub mod LineTexts
pub mod Printed
pub mod ListTexts
pub mod ItemTexts
pub mod SpecTexts
pub mod One
pub mod PrintedWords
pub mod PrintedLists
pub mod PrintedLines
pub mod PrintedRules
pub mod Canon
pub mod DefinedPlaces
mod Measuring
mod Tables
mod Entering
mod Growing
pub mod LengthLemmas
pub mod AliasPlaces
