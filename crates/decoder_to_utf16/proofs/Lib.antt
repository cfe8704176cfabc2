-- The settled segment that stands first in a byte text, as the reader of pieces tells it and as the tally takes it
pub mod FirstSettled
-- The walk in which all that is settled of a byte text is tallied: the segment that the reader told of what is left, and a run behind it
pub mod TallyOfBytes
-- What is pending and a piece behind it, where something is settled: the segment at their seam, and what the piece has behind it
pub mod SeamDivides
-- A piece that a state may take, behind what is pending: the stream then, and what the steps of a feed ask
pub mod SeamOfState
-- The end of a text whose state may end it: nothing is pending, or what is pending is one damage
pub mod EndOfState
-- The cutting of a text does not matter where it is written as units, and the state always passes its tests
pub mod AnyCutting
-- Two answers that the promise of feed or finish allows are equal, and they leave the same
pub mod OneAnswer
-- The room that is enough for a feed and for finish: what is pending becomes one segment, with or without the next bytes
pub mod Enough
