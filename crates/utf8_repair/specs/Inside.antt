-- How many bytes a segment has in repaired form
pub mod Places
