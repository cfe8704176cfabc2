-- The paper's marked examples, and one of lines, as a single statement about the definitions
pub mod Marked
