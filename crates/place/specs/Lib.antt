-- Where a line ends: what is said of the bytes of a segment and of the text behind it
pub mod Lines
-- The four measures of a byte text: bytes, UTF-16 units, code points and lines
pub mod Measures
-- Cutting: the longest beginning of a text that ends at a boundary and stays within a maximum
pub mod Cutting
-- Plain lookup, in the numbers of the refusals
pub mod Lookup
-- A walk over the places of a text: the offset that it goes to, one step of it, and what is found from a place on
pub mod Walk
