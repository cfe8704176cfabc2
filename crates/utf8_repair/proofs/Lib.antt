-- Runs of whole segments in the walks over a byte text that is repaired: what they write is themselves
pub mod RunsCopied
-- The segment that stands first in a byte text, in repaired form: a whole one is itself, a damage U+FFFD
pub mod SegmentsMended
-- A walk over what is left of a byte text that is repaired: each turn is a segment, and the run behind it
pub mod RestWalked
