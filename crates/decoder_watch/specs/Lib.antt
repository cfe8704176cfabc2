-- The watch: the state after one byte, and the reply
pub mod Watching
