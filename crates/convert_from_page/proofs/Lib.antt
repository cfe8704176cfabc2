-- A walk that stores a place more than it takes, and then over it: only the places of the whole form have changed
pub mod StoredOver
-- A page text as UTF-8 bytes, byte by byte: the number of each, those below 0x80 as they are, and at most three bytes of each
pub mod PageBytes
-- One number at the start of an output, by two stores or exactly, and in the walk over a page text
pub mod NumberStored
-- The strides of the writer: a run of bytes below 0x80 as it is, or some bytes by their numbers
pub mod PageStrides
-- The numbers of the three pages are units, by one test each
pub mod UnitsOfPages
