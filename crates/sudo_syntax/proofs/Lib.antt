pub mod CutLemmas
pub mod WordLemmas
pub mod TokenLemmas
pub mod Leads
pub mod FirstTokens
pub mod ListLemmas
pub mod DateLemmas
pub mod TagLemmas
pub mod ArgLemmas
pub mod NameLemmas
pub mod CmndLemmas
pub mod SpecLemmas
pub mod TreeLemmas
pub mod EntryLemmas
pub mod TreeForms
pub mod LineLemmas
mod Inheriting
mod Deriving
mod WorkedTexts
mod RefusedTexts
mod LinesAlike
mod SignsTags
mod JoiningParts
mod Doubles
