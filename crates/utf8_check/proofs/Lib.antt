-- A run of whole segments at the start of a byte text: the text divides into its segments and those of the rest, and they are settled
pub mod RunDivides
-- Where each byte stands well behind the three before it, a text is whole segments as far as the last boundary, and damage stands behind them
pub mod StandingIsWhole
-- A run of whole segments in a walk over a byte text: it ends inside the text, and is passed over at once in any form
pub mod RunsPassed
