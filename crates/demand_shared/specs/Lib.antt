-- Cut positions, which may be any numbers
pub mod Cuts
-- A comparison, element by element
pub mod Equal
