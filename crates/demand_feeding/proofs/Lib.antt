-- The whole repair: what it wrote, that its refusal is due, and what is left in the lent buffers
pub mod WholeRepairLeft
-- What both ways have found is the same: the totals, and the stored entries; each is granted exactly where it has room
pub mod FoundAlike
-- What the demand promises, it promises once: two answers, with what they left in the buffers, are equal
pub mod OneAnswer
-- The calls on the way through a text, as the definitions say
pub mod CallsOnTheWay
-- THE CUTTING DOES NOT MATTER
pub mod CuttingDoesNotMatter
-- Exactly where a way through a text within the limit is granted
pub mod GrantedExactly
-- The feeds of a text's pieces, each tried in a few places first, go the course of such calls, cut by cut
pub mod CutByCut
