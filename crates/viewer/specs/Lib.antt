-- The viewer's numbers, which stand for the refusal numbers
pub mod Replies
