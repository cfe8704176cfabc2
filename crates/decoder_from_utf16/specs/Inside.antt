-- What is kept of settled segments: the tally that a state begins with, and the state that keeps a tally and what is left
pub mod Tallying
