-- What settled segments do to a tally, to the output and to the list: what the log of them says
pub mod Acting
-- What the decoder's steps promise each other: a piece is fed behind what is pending, and the text ends
pub mod Steps
