-- What only private clauses and proofs cite: no public contract speaks of it.
-- what a set of messages says, by name
pub mod ByName
-- and by text
pub mod ByText
-- the entries of the names that some messages are about
pub mod Entries
