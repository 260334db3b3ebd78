-- What only private clauses and proofs cite: no public contract speaks of it.
pub mod Forms
pub mod Noting
pub mod Firsts
pub mod Voters
pub mod Status
pub mod Given
pub mod Lines
