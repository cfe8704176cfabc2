-- What a call tells: numbers in a lent slice, and how many they are
pub mod Telling
-- What a wrapped call leaves that writes: its output, and what is told of it; where it is not called nothing is changed
pub mod Writing
-- The states and a place, as numbers in a lent slice
pub mod States
-- What a wrapped call leaves where a state stands: the next state; where nothing is called nothing is changed
pub mod Keeping
-- What is said of held bytes and of a seam
pub mod Answers
