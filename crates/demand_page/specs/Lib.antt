-- Whether a refusal on the way from bytes into a page was due, from what it tells
pub mod Due
-- There and back: what two conversions leave in the lent buffers, and the answer
pub mod Rounds
