-- A cut position that is brought lies between the previous one and the end
pub mod CutsBetween
-- The comparison: it says yes exactly of a list and itself
pub mod EqualExactly
-- Answers are compared by what they tell: two that tell the same are alike
pub mod AnswersCompared
-- What a call that writes told and wrote, whatever it says
pub mod CallWrote
