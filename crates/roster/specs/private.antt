-- What only private clauses and proofs cite: no public contract uses it.
-- what each stage of reading a roster keeps and promises
pub mod Stages
-- the orders in which names, pairs and commands are looked up
pub mod LookupOrders
