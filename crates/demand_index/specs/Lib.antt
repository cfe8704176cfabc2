-- An index that is built in pieces: the calls of the builder one after another, by what they promise
pub mod Builds
-- What private steps promise each other
pub mod Inside
