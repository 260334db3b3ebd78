-- What only private clauses and proofs cite: no public contract speaks of it.
-- the messages about some of the names
pub mod Parts
