-- a history that is cut at a moment
pub mod Archive
-- sets that grant the same from a moment on
pub mod SameFrom
-- a worked case
pub mod WorkedCut
pub mod private
