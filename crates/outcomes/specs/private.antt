-- What only private clauses and proofs cite: no public contract speaks of it.
-- what is known of a set, by name
pub mod ByName
-- the index: by the ends that are asked for
pub mod Index
-- what its summaries give in turn
pub mod InTurn
pub mod Behind
-- a walk over the summaries
pub mod Walk
