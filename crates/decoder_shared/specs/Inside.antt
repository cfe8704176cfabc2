-- What the steps of a feed promise each other, where what is settled is converted as a text and its damages are then entered
pub mod Steps
-- A tally, and a list that goes with it, as a log of nothing written
pub mod Tallying
