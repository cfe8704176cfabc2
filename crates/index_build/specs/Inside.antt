-- What the builder's steps promise each other
pub mod Steps
-- The counts behind some bytes, by what each byte counts, and the boundary at or before a byte
pub mod Summed
-- A run of whole segments, which is counted from checkpoint to checkpoint
pub mod Runs
