-- The builder: what a feed and finish answer, hand back and write
pub mod Building
-- A text that one caller feeds to the builder in pieces
pub mod Course
-- The builder's state: its tests, its last settled place, and what a call answers
pub mod State
-- What private steps promise each other
pub mod Inside
