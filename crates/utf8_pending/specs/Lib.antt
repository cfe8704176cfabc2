-- The bytes that are pending between two pieces
pub mod Tail
