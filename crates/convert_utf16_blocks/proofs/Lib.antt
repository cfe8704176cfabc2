-- The bytes of units that stand alone, stored one unit behind another
pub mod BytesSqueezed
-- The units that a text begins with, and units below 0x80, which are alone and their own bytes
pub mod LowUnits
-- Two answers that the promise about a block allows are equal, and they leave the same
pub mod OneAnswer
