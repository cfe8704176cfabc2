-- Segments act: one run of them behind another does what the log of both says, and what is enough for both is enough for each
pub mod SegmentsAct
-- What a feed answers, once it may take its piece
pub mod FeedAnswers
-- A piece behind what is pending
pub mod SeamSettled
-- What finish answers: pending bytes are one damage that the end of the text stops, for which U+FFFD is written
pub mod FinishAnswers
-- The decoder of bytes is lawful: so the cutting of a text does not matter, and the state always passes its tests
pub mod BytesLawful
-- What a granted feed has taken and written: the piece, within the limit, and places within the output
pub mod GrantedFeedTakes
-- What a feed keeps, apart from the list: the state that it hands back, and the state of pieces one by one
pub mod StateKept
-- Two answers that the promise of start, feed or finish allows are equal, and they leave the same
pub mod OneAnswer
-- The room that is enough for a feed and for finish: what is pending becomes one segment, with or without the next bytes
pub mod Enough
-- The tests of a state, as facts about its numbers
pub mod TestsAsFacts
-- What is settled of a text takes at most three places for each byte; and what is lacking of them
pub mod SettledPlaces
-- What the reader told of a text is the settled segment that stands first in it, with its bytes and its places
pub mod SettledByReader
-- The walks over the settled segments of a text, by runs of whole segments and one segment behind each: the one that counts, and the one in which each acts
pub mod SettledWalk
