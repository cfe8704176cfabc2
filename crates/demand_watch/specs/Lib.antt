-- The watch of a whole text, byte by byte, and a feed of it
pub mod Watching
-- What private steps promise each other
pub mod Inside
