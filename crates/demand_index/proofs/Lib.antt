-- The audit says yes to what a course of feeds that was finished left
pub mod AuditSaysYes
-- A build in pieces goes call by call: what a feed answers decides where the next piece begins
pub mod CallByCall
-- What the calls on the way through a text leave is what a course of the builder's feeds leaves; where the index was built that course has taken the text and was finished, and otherwise the refusal was right
pub mod CourseOfFeeds
-- Two lookups that answer the same are told to be the same by `==`
pub mod AnswersAlike
