-- What only private clauses and proofs cite: no public contract uses it.
-- messages as values of JSON, and their members
pub mod Members
-- bytes that are compared with a text, piece by piece
pub mod Past
