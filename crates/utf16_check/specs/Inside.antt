-- Units in pairs: a first half stands exactly where a second half stands behind it
pub mod Paired
