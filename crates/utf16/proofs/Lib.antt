-- A fold over a slice: what it gives is shown first, and then what holds at each step
pub mod UnitsFolded
-- The rows of the unit table
pub mod RowsOfUnits
-- A SEGMENT OF UNITS IS READ WITH EXACTLY ONE CAUSE, that of the paper's sentence
pub mod CausesOfUnits
-- Strict reading accepts exactly the well-formed texts of units within the limit
pub mod AcceptsWellFormed
-- What the reader of units tells, from the tests that its code makes
pub mod ReaderTells
-- UTF-16 is a faithful form: a scalar value is encoded as one unit or a pair, and each of these stands for a scalar value
pub mod FaithfulForm
-- Units that stand alone: how they are tested unit by unit, and that they divide into segments of one whole unit each
pub mod AloneDivides
