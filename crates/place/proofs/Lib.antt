-- The reader by which places are counted is a division, holds little back, and its segments are short
pub mod ReaderDivides
-- What a lookup tells loses nothing: two answers that tell the same are equal
pub mod ToldBack
-- The four measures: which of them rise, the units of a segment by its size, and the order of a place's counts
pub mod MeasuresRise
-- A line ends after each byte 0x0A and nowhere else: the lines of a place are the bytes 0x0A before it
pub mod LineEnds
-- The paper's sentences on lookup, about what the calls tell
pub mod FoundByCounts
-- What is cut is the longest beginning that ends at a boundary and stays within the maximum
pub mod Longest
-- One step of a walk: the place behind the segment that the reader told
pub mod OneStep
-- What a walk over the places of a text has reached, and the refusals before it
pub mod WalkReached
