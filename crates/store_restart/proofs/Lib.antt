-- what an opening finds in files that a crash may have left
pub mod FoundLemmas
-- a desk over that
pub mod ReopenedLemmas
