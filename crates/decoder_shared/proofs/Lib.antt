-- The checks before a call: each way through them, and what a granted one says
pub mod ChecksInOrder
-- What makes a decoder one: its reader divides, a state keeps what it stands for, and what balances passes the tests
pub mod Lawful
-- THE CUTTING DOES NOT MATTER, over any decoder: many calls by one caller, and the state always passes its tests
pub mod AnyCutting
-- An entry in the list: it is stored where there is room for it
pub mod EntryStored
-- The walk in which all that is settled of a text is tallied, over any division: by runs of whole segments, and one segment behind each
pub mod TalliedWalk
-- What a feed answers: each way through its checks meets the promise, over any decoder
pub mod FeedAnswers
-- What finish answers: what is pending is one damage, and each way through its checks meets the promise, over any decoder
pub mod FinishAnswers
-- What is settled of a text is a text of its own, which divides into the same segments, over any table
pub mod SettledIsCut
-- Two forms in one output, one behind the other: the second is written behind the places of the first, and then the first
pub mod FormsJoined
-- What finish tells loses nothing: two answers that tell the same are equal
pub mod ToldBack
-- A text of one segment or none, and what is settled of a text behind it: they are tallied, converted as two texts, and the feed answers
pub mod SettledText
-- The room that is enough for a feed and for finish, over any decoder
pub mod Enough
-- The steps of a tally that has room for them are those of its log
pub mod TallyPlain
