-- Tests and lists: what the kit's libraries lack and every crate's laws use
pub mod Cases
-- A rule of a table, from one test that is computed over all of its entries
pub mod EveryEntry
-- The laws of a division: its equations, induction by segments, that it loses nothing, and the law of a stream
pub mod Divisions
-- A READER OF LINES DIVIDES AS THE READER BELOW IT: the same segments, and little held back
pub mod LinesDivide
-- A piece more of a stream, over any division and any action of a segment
pub mod PieceMore
-- THE LAW OF CALLS: what every granted call keeps holds after any calls, with refused ones between them; and calls that feed a stream leave the one of the joined text
pub mod AnyCalls
-- The laws of what is kept: totals and entries of two runs of segments, the list with room, and the log of a text in pieces
pub mod TalliesAdd
-- A RUN OF WHOLE SEGMENTS: nothing of it is left while more text may follow, and what it does to a log, for any written form
pub mod WholeRuns
-- Rows of numbers: runs written one over another, entries of one width and how they are read back, and the multiples of a spacing
pub mod Rows
-- The laws of places: lookup by any measure, the last place at or before a count, and both in a text that is divided
pub mod PlacesFound
-- The laws of the indexed lookup
pub mod TrueIndexAnswers
-- The laws of the index builder: two calls are one, the cutting does not matter, and what is built is a true index
pub mod BuiltIsTrue
-- The laws of a reader by a table, for any table: it is a division, holds little back, its damage is short, and only what is held back ends
pub mod TableDivides
-- That a table's reader reads the paper's segments, and that a text divides in exactly one way, for any table whose rows do not meet
pub mod OneDivision
-- That a segment is read with the cause of which the paper's sentence is true of it, and with no other, for any table whose rows do not meet
pub mod CausesTold
-- The sequences of a table, row by row
pub mod SequencesAreWhole
-- That what is pending is exactly nothing or a proper beginning of a well-formed sequence, for any table whose rows do not meet
pub mod PendingBegins
-- That a text has no damage exactly if it is well-formed sequences one behind another, for any table whose rows do not meet
pub mod AcceptsWellFormed
-- THE READER OF A TABLE reads the table's segments, in the paper's words, for any table whose rows do not meet
pub mod TableReads
-- AN ELEMENT THAT GOES ON WITH NO SEQUENCE BEGINS A SEGMENT WHEREVER IT STANDS, for any table
pub mod BeginsAnywhere
