-- No code point takes more than four places, in any form
pub mod FourAtMost
-- One code point at the start of an output
pub mod PointWritten
-- The numbers of a part that is lent, and of what comes back, are that part of the numbers
pub mod NumbersOfParts
-- A walk that keeps the rest of its text: how far it has come, and the code point that it meets there, over any form
pub mod RestOfText
-- A walk over a text in passes, of which each reads some of the text and counts or writes what that takes, over any forms
pub mod WalkInPasses
-- Two numbers that the promise of a writer of one code point allows are equal, and they leave the same
pub mod OneAnswer
-- The room that is enough: no segment takes more places in a form than its elements are counted for, and so no text does
pub mod Enough
