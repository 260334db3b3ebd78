-- What only private clauses and proofs cite, and no public contract.
pub mod Used
pub mod Writing
pub mod Kept
pub mod Tags
