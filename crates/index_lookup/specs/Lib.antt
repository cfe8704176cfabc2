-- Lookup in an index, whatever its numbers are
pub mod Looking
-- A row that is a text's index, and lookup by it that answers as plain lookup
pub mod Agreeing
-- What private steps promise each other
pub mod Inside
