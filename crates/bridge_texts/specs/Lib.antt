-- Calls that take the state of a decoder from a lent slice and put the next one there; where nothing is called nothing is changed
pub mod Keeping
-- The form of a text by its number
pub mod Needing
-- The old pages by their numbers
pub mod Pages
