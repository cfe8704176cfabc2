-- The units of a byte text, where a first byte alone says how many bytes its sequence has: no byte behind it is tested
pub mod Spell
-- A stride of the writer: some bytes of a text are passed over, and the units that they spell are written
pub mod Stride
-- A step of the writer of code points: some bytes of a text are passed over and written, and the text behind them has no damage either
pub mod Step
-- How far a page has the code points of a byte text with no damage, and the strides of the walks that test them and write them
pub mod Held
