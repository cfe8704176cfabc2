-- Calls that must be refused: the number that is due to each of them, and that they change nothing
pub mod RefusedUnchanged
