-- Whether a byte stands well behind the three before it: well-formedness as a test of four bytes in a row
pub mod Stands
-- What private steps promise each other
pub mod Inside
