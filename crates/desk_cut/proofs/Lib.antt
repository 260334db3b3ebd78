-- sets that grow by the messages of a list
pub mod GrowingLemmas
