-- What a pass over the beginning of a text leaves: how much of the text it read, and what that takes in the other form
pub mod Passes
