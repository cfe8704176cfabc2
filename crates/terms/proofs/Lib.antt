-- What is told loses nothing: two answers that tell the same are equal, since each can be read back from its numbers
pub mod ToldBack
-- The checks before every call: each way through them, and that what is granted has passed them
pub mod Tested
-- A walk over a text's segments: what the segment reader told at a place, and the strict check's way, over any division
pub mod WalkBySegments
-- The code point that stands first in a text, from what the segment reader told of the text, over any form
pub mod PointTold
-- What makes a form faithful: what is encoded is read as itself and decoded to the same number, and the other way round
pub mod FaithfulForms
-- The laws of conversion and repair, over any forms: what is written divides as it was meant, and comes back
pub mod ConvertsBack
-- The walk that writes, whatever is written: what it has counted and written when it has come to a place of the text
pub mod WalkWrites
-- A text that is copied to the start of an output, element by element
pub mod CopiedText
-- What writing calls answer: each way through their checks meets the promise
pub mod AnswersWritten
-- Two answers that the promise of a call that writes allows are equal, and they leave the same; so are two code points told alike
pub mod OneAnswer
