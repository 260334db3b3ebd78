-- what a crash leaves of a store's files, and of the desk in them
pub mod Stopped
-- a desk that is opened over that
pub mod Reopened
