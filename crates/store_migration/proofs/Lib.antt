-- the statements
pub mod PartLemmas
pub mod EmptyLemmas
-- the transaction
pub mod PrepareLemmas
pub mod MoveLemmas
