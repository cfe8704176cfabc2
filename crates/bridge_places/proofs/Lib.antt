-- The promise of a call that takes the state of a builder from a slice and puts the next one there
pub mod StateHandedOn
-- Two replies that the promise of a call on a builder's state allows are equal, and they leave the same
pub mod OneAnswer
