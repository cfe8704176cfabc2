-- Texts of code points: each number is a segment, whole if it is a scalar value
pub mod Points
