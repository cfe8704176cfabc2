-- Calls that take the state of a builder from a lent slice and put the next one there; where nothing is called nothing is changed
pub mod Keeping
