-- A decoder of any form: what it reads and writes, and what a state stands for while a text comes in pieces
pub mod Decoding
-- The checks before a call: whether a state may take it
pub mod Checks
-- Start, feed and finish: what they answer, the state that they hand back, and what the lent output and list then hold
pub mod Calls
-- A text that one caller feeds in pieces: the calls one after another, by what they promise, and what they give together
pub mod Course
-- The room that is enough: the most places that a feed of so many elements can need
pub mod Room
-- An entry in the list of damages
pub mod Entry
-- What private steps promise each other
pub mod Inside
