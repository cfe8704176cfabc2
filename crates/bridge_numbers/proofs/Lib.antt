-- The numbers that are said of an answer, and 0 in the places behind them
pub mod ZerosBehind
-- All that an answer tells is said of it: no answer tells more numbers than there are places
pub mod AllSaid
-- A wrapper's promise, from what the wrapped call answered, what was said of it and the telling
pub mod WrapperTells
-- Two replies that the promise of a call that tells allows are equal, and they leave the same
pub mod OneAnswer
-- The test of a slice that is to hold a state
pub mod HoldsState
-- Whether a call is made: the tests of a state in a slice, of a place and a kind, and of the room to tell
pub mod CalledWhere
