-- What only private clauses and proofs cite: no public contract of the desk speaks of it.
-- where a line is cut
pub mod Cuts
-- what is kept beside a policy's entries
pub mod Measures
pub mod Lengths
pub mod AliasKinds
