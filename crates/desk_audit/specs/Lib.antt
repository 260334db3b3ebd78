-- what is told about a name's messages, and about each name
pub mod Told
pub mod Audit
-- what is told, as a document
pub mod Documents
pub mod private
