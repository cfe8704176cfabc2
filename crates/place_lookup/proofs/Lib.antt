-- The answers of lookup, by any measure, at the place that a walk has reached
pub mod AnswersReached
