-- The two sums over parts of a text: byte by byte, block by block, and where it is filled up with later bytes
pub mod CountsByBlocks
-- THE LAW OF THE SUMS: where all segments of a byte text are whole, its sums are those of its segments
pub mod SumsOfSegments
-- Line ends over parts of a text: byte by byte and part by part, few, and none that begins with a later byte
pub mod LineEndsAdd
-- A part of a text in a row that is filled up with 0: its line ends
pub mod LineEndsInRow
