-- a message more, and approvals that count
pub mod SuspectLemmas
-- the messages about some of the names
pub mod PartLemmas
-- what a report looks at
pub mod ReviewLemmas
