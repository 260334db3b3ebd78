pub mod AliasLemmas
pub mod AnswerLemmas
pub mod DecisionLemmas
pub mod Reaching
pub mod Speakers
mod OneRule
mod ListAnswers
