-- Lookup from a checkpoint on: what the walk from it tells, and the refusals before
pub mod FromCheckpoint
-- A row that begins with a text's index: lookup in it answers as plain lookup
pub mod AnswersAsPlain
-- A lookup in a text's index ends near its start
pub mod EndsNear
