-- Bytes of a text that stand at the start of an output: one more of them, and a block of sixteen more
pub mod Copied
