-- Entries of an index: how a checkpoint is read
pub mod ReadBack
-- Halving, where the middle is reached without a sum that could overflow
pub mod MiddleReached
-- Whether a checkpoint is usable: the tests, by the first multiple of the spacing at or behind its byte
pub mod UsableByTests
-- Four numbers of a row, one behind another
pub mod FourWritten
