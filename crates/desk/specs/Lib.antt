-- what a desk is, how it is opened and rebuilt, and what it answers to deliveries
pub mod State
pub mod Digests
pub mod History
pub mod Refusals
pub mod Serving
pub mod Opening
pub mod Rebuilding
pub mod Delivery
pub mod Texts
pub mod Count
pub mod Crash
-- laws: runs, and sets that answer alike
pub mod Runs
pub mod Same
pub mod private
