-- One feed of a text and the feeds of its pieces, in buffers of their own, beside the whole repair
pub mod Pieces
-- A text that is fed to a decoder in pieces and finished: the calls one after another, by what they promise
pub mod Feeds
-- What is compared: whether a refusal was due, whether there is room, and the totals and entries of two ways
pub mod Comparing
-- What private steps promise each other
pub mod Inside
