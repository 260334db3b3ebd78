-- What only private clauses and proofs cite: no public contract uses it.
-- the parts of the report
pub mod Reporting
pub mod Names
-- why none of a person's approvals counts
pub mod Whys
