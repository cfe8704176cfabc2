-- Bytes that stand well, as the tests of a block find them: so many at least
pub mod Blocks
