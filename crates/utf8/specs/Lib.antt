-- UTF-8: the well-formed byte sequences of the Unicode Standard, table 3-7, and the reader of byte texts
pub mod Bytes
-- The twelve classes of bytes, and the reader of byte texts by a table of classes
pub mod Classes
-- The number that a well-formed byte sequence stands for, and the sequence of a scalar value
pub mod Scalar
-- Pending bytes as a state keeps them: so many places as may be pending, of which the unused ones are 0
pub mod Pending
-- What private steps promise each other
pub mod Inside
