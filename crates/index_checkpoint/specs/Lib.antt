-- Checkpoints: four 32-bit numbers each, one at each multiple of 256 bytes
pub mod Checkpoints
-- The checkpoint that halving chooses
pub mod Choosing
-- The row of an index with one checkpoint more
pub mod Marks
