-- The decoder of units: what it reads and writes, and what a state stands for
pub mod State
-- The tests of a state
pub mod Tests
-- Start, feed and finish: the shared promises, of the decoder of units
pub mod Feeding
-- What private steps promise each other
pub mod Inside
