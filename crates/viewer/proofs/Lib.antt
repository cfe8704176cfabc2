-- The viewer's numbers from what the calls told
pub mod RepliesTold
-- Two replies that the promise of the viewer's repair allows are equal, and they leave the same
pub mod OneAnswer
