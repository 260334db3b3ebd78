-- What only private clauses and proofs cite: no public contract speaks of it.
-- the last end that is asked for under each name
pub mod Ends
