-- what stays of a desk's messages, and what goes to the archive
pub mod CutOf
-- sets that grow by the messages of a list, and refusals that a keeper's call gives
pub mod Growing
