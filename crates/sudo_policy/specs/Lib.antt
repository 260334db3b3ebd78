-- what a policy is made of, and its text
pub mod Text
pub mod Limits
pub mod Tags
pub mod Printing
pub mod Alias
pub mod Policy
-- which texts spell it
pub mod Span
pub mod Lex
pub mod Lines
pub mod Grammar
pub mod Inheritance
pub mod Spelling
pub mod Reading
pub mod Faults
-- a law in the subject's words
pub mod Aliased
pub mod private
