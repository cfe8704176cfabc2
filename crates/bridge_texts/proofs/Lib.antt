-- The promise of a call that takes the state of a decoder from a slice and puts the next one there
pub mod StateHandedOn
-- Two replies that the promise of a call on a decoder's state allows are equal, and they leave the same
pub mod OneAnswer
-- One test more before a call that writes
pub mod PageAsked
