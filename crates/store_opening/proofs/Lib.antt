-- the statements that read
pub mod Rowids
pub mod PartQueries
pub mod NoneReturned
pub mod ReadLemmas
pub mod ThreeReads
-- the tests
pub mod Compared
pub mod RowsCompared
pub mod KeyedCompared
pub mod PlainRows
pub mod KeptLemmas
-- the tests by binary search
pub mod NameLemmas
pub mod IndexLemmas
pub mod OnceLemmas
-- what was read is in the database
pub mod ReadingLemmas
pub mod WholeRows
pub mod Shown
pub mod TextsShown
pub mod OpenedLemmas
pub mod ShowingLemmas
pub mod CellLemmas
