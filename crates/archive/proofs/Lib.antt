-- names that have ended, and what a cut leaves
pub mod Cuts
-- sets that are alike from a moment on
pub mod FromThen
-- files
pub mod Files
-- the last end of each name
pub mod EndLemmas
-- a list that is split as it is read
pub mod Splits
-- a worked case
mod WorkedHistory
