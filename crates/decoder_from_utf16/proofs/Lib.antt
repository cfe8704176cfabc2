-- The tests of a state, as facts about what is pending and about its numbers
pub mod TestsAsFacts
-- The walk over a text of units: a run of units that stand alone, and the segment behind it that the reader told
pub mod TallyOfUnits
-- Texts of units: what is pending is one unit at most, and units are read alike where the text is cut off behind a segment
pub mod SettledUnits
-- What a state that passes its tests has pending: nothing, or one first half
pub mod HalfPending
-- A piece behind what is pending: a first half and the unit behind it are one segment, or the half is damage
pub mod SeamOfUnits
-- The end of a text of units: a pending half is one damage that the end stops, for which U+FFFD is written
pub mod EndOfUnits
-- The decoder of units is lawful: its reader divides, a state keeps what it stands for, and what balances passes the tests
pub mod UnitsLawful
-- THE CUTTING DOES NOT MATTER of a text of units, and the state always passes its tests
pub mod AnyCutting
-- Two answers that the promise of start, feed or finish allows are equal, and they leave the same
pub mod OneAnswer
-- The room that is enough for a feed and for finish
pub mod Enough
