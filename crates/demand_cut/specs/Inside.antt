-- What cutting at a place asks
pub mod Cuttings
