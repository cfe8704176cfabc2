-- What a text counts
pub mod Counts
-- What private steps promise each other
pub mod Inside
