-- Blocks of alone units, and the bytes of units that each stand by themselves
pub mod Block
-- What private steps promise each other
pub mod Inside
