-- The decoder's state: its tests, and what it stands for while a text comes in pieces
pub mod State
-- Start, feed and finish: what they answer, the state that they hand back, and what the lent output and list then hold
pub mod Feeding
-- A text that one caller feeds in pieces: the calls one after another, by what they promise, and what they give together
pub mod Course
-- The room that is enough: the most places that a feed of so many bytes can need
pub mod Room
-- The tests of a decoder's state
pub mod Tests
-- The checks before a call: whether a state may take it
pub mod Checks
-- What private steps promise each other
pub mod Inside
