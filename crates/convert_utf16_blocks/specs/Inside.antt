-- The three bytes that a unit may take: its sequence is the first one, two or three of them
pub mod Places
