-- Where a needle stands in an entry, where it stands first, and the entry from there on; in the numbers of the refusals
pub mod Match
-- The boundaries of a byte text, and that a match lies between two of them
pub mod Boundaries
-- What private steps promise each other
pub mod Inside
