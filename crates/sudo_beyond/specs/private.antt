-- What only private clauses and proofs cite: no public contract speaks of it.
-- lists that are searched and gathered
pub mod Gathering
-- what compiled policies answer
pub mod Compared
pub mod Baselines
