-- A refusal of a strict conversion is due
pub mod RefusalDue
-- There and back: what a strict conversion wrote, that the way back gives the text, and that a refusal was due
pub mod WayBack
-- THERE AND BACK: what a strict conversion granted comes back as it was, in all six directions; and what repair gives
pub mod ThereAndBack
-- A round is fixed by its inputs: any two outcomes that its record allows are equal
pub mod OneAnswer
