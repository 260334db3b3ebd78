-- which names a report has to look at
pub mod LookedAt
pub mod private
