-- What is asked behind a watch and a feed: whether their states are the same, and whether a refusal was due
pub mod Comparing
