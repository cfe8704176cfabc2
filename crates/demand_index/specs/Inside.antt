-- What a build in pieces answers and leaves, and when it may refuse
pub mod Steps
