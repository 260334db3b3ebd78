-- what a cut leaves of a desk's rows
pub mod RowsLeft
