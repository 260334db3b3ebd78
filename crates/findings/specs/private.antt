-- What only private clauses and proofs cite: no public contract speaks of it.
-- what is added to a text
pub mod Writing
-- what the reader of words has taken in
pub mod Hearing
