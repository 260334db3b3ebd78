-- What only private clauses and proofs cite: no public contract speaks of it.
-- what a desk knows of the messages that its keeper holds
pub mod Known
