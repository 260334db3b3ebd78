pub mod CollectedLemmas
pub mod MemoryLemmas
pub mod OutcomeLemmas
-- messages that are taken in, one after another
pub mod TakenIn
-- what storage does to calls, one after the other
pub mod ServingLemmas
-- what is told
pub mod TellLemmas
pub mod CountLemmas
-- what a crash leaves
pub mod SameLeft
pub mod MemoryLeft
pub mod OneDesk
pub mod FoundLemmas
pub mod ArrivalLemmas
-- what is held, as a list
pub mod SetListed
-- another roster's text
pub mod EachOnce
pub mod ReplacingLemmas
pub mod Listed
pub mod SomeDesk
