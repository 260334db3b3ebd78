-- What only private clauses and proofs cite, and no public contract.
-- the tokens of a line, and what stands at their front
pub mod Tokens
pub mod Fronts
pub mod Low
-- lines as the reader goes over them
pub mod Pieces
pub mod Pending
