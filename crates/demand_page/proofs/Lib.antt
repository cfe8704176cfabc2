-- The plain walk to the first code point that a page lacks
pub mod PlainWalk
-- A refusal of a conversion from or into a page is due
pub mod RefusalDue
-- There and back, for any two conversions by what they say and write
pub mod WayBack
-- What the two conversions of a page grant, and what the way back then says
pub mod PageRounds
-- A round is fixed by its inputs
pub mod OneAnswer
