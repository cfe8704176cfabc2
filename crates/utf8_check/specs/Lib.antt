-- The longest beginning of a byte text that is made of whole segments
pub mod Run
-- The pace of a walk: how many segments are read one by one before the next run is looked for
pub mod Pace
