-- A text divided into segments by a reader, and what of it is settled while more text may follow
pub mod Reader
-- A text that comes in pieces
pub mod Stream
-- Calls of one caller, one after another, with a text that comes in pieces
pub mod Course
-- What is kept of a text's segments
pub mod Tally
-- Places: what has been counted at a boundary of a text; plain lookup by any measure; the last place at or before a count
pub mod Place
-- The index of a text: a checkpoint at each multiple of a spacing, what the builder writes, and lookup from a checkpoint on
pub mod Index
-- Readers by a table of well-formed sequences, as the Unicode Standard's table 3-7: a row has a range for each element
pub mod Table
-- A reader of lines: the segments of any reader, and of each whether a line ends behind it
pub mod Lines
-- The paper's words for a table's segments
pub mod Sequence
