-- The laws of the watch: a feed with no room for entries serves it, it agrees with any feed of the byte, and bytes one by one are one piece
pub mod WatchIsFeed
-- Two replies that the promise of the watch allows are equal, and they leave the same state
pub mod OneAnswer
