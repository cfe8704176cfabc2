-- The parts of a lane's test, from bits to what they say of the bytes
pub mod LaneTests
-- Bytes that stand well, one more or a block more, and what that says of the text
pub mod StandMore
-- Going on from a place up to which a text stands well, byte by byte, to the first byte that does not
pub mod OnwardByBytes
-- What the three bytes before a place ask for: how many of them wait, and when the byte behind them stands well
pub mod AskedByThree
-- A walk over windows of four bytes: each of them is the start of what is left
pub mod WindowWalk
