-- What the caller has between two feeds, and what a way through a text has left
pub mod Feeding
-- Calls that must be refused: what they leave as it was, and the number that is due
pub mod Trying
