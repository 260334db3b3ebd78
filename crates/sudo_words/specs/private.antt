-- What only private clauses and proofs cite, and no public contract.
-- words of a command's text
pub mod Pieces
