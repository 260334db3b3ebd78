-- What only private clauses and proofs cite: no public contract speaks of it.
pub mod Commands
pub mod Readings
