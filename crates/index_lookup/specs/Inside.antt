-- Lookup from a checkpoint on: which ones may be asked for, and what it tells
pub mod Resuming
