-- admission: what a command reaches, what a roster admits and why it denies, and what that comes to
pub mod Reach
pub mod Denials
pub mod Admission
pub mod Privilege
pub mod WorkedAdmission
-- statuses: which verdicts count, what the messages about a name come to, and definitions for its
-- laws
pub mod Verdicts
pub mod Weights
pub mod Statuses
pub mod Completion
pub mod Counting
pub mod Past
pub mod WorkedStatuses
-- what a summary keeps of messages
pub mod Marks
pub mod Summaries
-- the rules of a host's file
pub mod GrantRules
pub mod GrantLines
pub mod Bases
pub mod HostFaults
pub mod private
