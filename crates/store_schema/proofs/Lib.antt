pub mod RecognizedLemmas
pub mod ShapeLemmas
-- how a table is added
pub mod Grown
pub mod Makes
pub mod GrowLemmas
pub mod CreateLemmas
-- the tables of other names
pub mod TableLists
pub mod BesideLemmas
-- how a desk is made
pub mod MadeLemmas
pub mod EndLemmas
pub mod ListedLemmas
pub mod MarksLemmas
