-- Code points are a division and a faithful form, and what the reader tells of the number that stands first
pub mod CodePointsDivide
