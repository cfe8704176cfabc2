-- The watch of a text byte by byte: its loop, and that it comes to the state and the count of one feed of the whole
pub mod WatchedAsFed
-- The comparison of two states says yes exactly of the same, and a feed from the fresh state is refused only where that is due
pub mod SameStates
-- Two answers that the promise of the watched text allows are equal, and they leave the same
pub mod OneAnswer
