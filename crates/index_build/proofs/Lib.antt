-- One segment: the place behind it, and the checkpoint that it passes
pub mod CheckpointPassed
-- The walk over the settled segments of a text
pub mod StreamBehindWalk
-- A 0D that nothing follows: by the reader of places it is pending
pub mod LoneReturn
-- The counts behind some bytes of a text and then some more
pub mod CountsAdd
-- The boundary before a byte: the one that a step back over later bytes leads to
pub mod BoundaryBefore
-- Stepping back from a byte to the boundary before it, over the bytes of a segment that is begun there
pub mod BackToBoundary
-- A RUN of whole segments that are settled: the text divides behind it, and the places in it are those of the sums of their bytes
pub mod RunDivided
-- THE RUN has been counted as far as a byte, and the checkpoints up to there are written
pub mod RunMarked
-- The settled run that a text begins with, and the walk behind it
pub mod SettledRun
-- What a call answers, and what it leaves where it is granted and where it is refused
pub mod GrantedOrRefused
-- A state that takes a piece, or ends: the seam with what is pending, and the pending bytes as one segment
pub mod SeamAndPending
-- Many calls by one caller: the cutting of the text does not matter, the state always passes its tests, and lookup by what is built answers as plain lookup
pub mod BuiltAsPlain
-- Two answers that the promise of a call that builds allows are equal, and they leave the same
pub mod OneAnswer
-- The tests of a state, as facts about its numbers
pub mod TestsAsFacts
-- The checks of a call, in their order
pub mod ChecksInOrder
