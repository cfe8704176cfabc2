-- The rows of the byte table: which of them a byte begins, and the laws of a division that follow for byte texts
pub mod RowsOfBytes
-- Classes of later bytes: 1, 2 and 3, and none besides
pub mod ClassesWanted
-- THE RULE OF THE TABLE: a byte has a class exactly if it lies in the class's ranges
pub mod ClassRule
-- Whatever the table has, a reader by classes is a division, and takes at most three bytes behind the first
pub mod ClassesDivide
-- A table with the rule reads what the well-formed byte sequences of table 3-7 say; and the table of the code has the rule
pub mod ClassesRead
-- A SEGMENT OF BYTES IS READ WITH EXACTLY ONE CAUSE, that of the paper's sentence
pub mod CausesOfBytes
-- Strict reading accepts exactly the well-formed texts of bytes within the limit
pub mod AcceptsWellFormed
-- The reader's loop over the bytes that a first byte wants: what it tells is what was passed and what the rest says
pub mod LoopTells
-- UTF-8 is a faithful form: a scalar value is encoded as a sequence of some row, and a row's sequence stands for a scalar value
pub mod FaithfulForm
