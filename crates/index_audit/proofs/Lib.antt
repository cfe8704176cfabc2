-- Entries of an index: how a checkpoint is compared
pub mod ComparedByNumbers
-- The audit: each checkpoint is found from the one before, and compared; what is left to compare decides
pub mod CheckpointByCheckpoint
-- What the audit says yes to: a row that begins with the text's index
pub mod YesToItsIndex
