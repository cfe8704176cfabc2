-- The limits and the fresh state, which belong to the decoder
pub mod Limits
-- The checks before every call of a state that takes a text in pieces
pub mod Checks
-- What each answer tells, in the paper's numbers
pub mod Told
-- Strict reading: the first damage is refused
pub mod Strict
-- Scalar values, and the forms in which a text of them is kept
pub mod Form
-- Calls that write a form of a text into a lent output: what they answer, and what the output then holds
pub mod Writing
