-- Whether a refusal was due, from what it tells
pub mod Due
-- There and back: what two strict conversions leave in the lent buffers, and the answer
pub mod Rounds
