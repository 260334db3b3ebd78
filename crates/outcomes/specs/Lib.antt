-- what a set of messages grants
pub mod Order
pub mod Covers
pub mod HostFile
pub mod Rights
pub mod Outcomes
pub mod Parked
pub mod Summaries
pub mod About
-- what is known of the messages
pub mod Gathered
-- a host's lines and file, the whole or that after a moment
pub mod LinesLeft
-- laws: sets that grant the same, rosters that do, and verdicts that count for nothing
pub mod Same
pub mod Alike
pub mod Uncounted
-- a worked case
pub mod WorkedSet
pub mod private
