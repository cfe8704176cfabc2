-- One feed of a piece, and a piece that is tried in a few places first
pub mod Feeding
