-- How many bytes at the start of a text are below 0x80
pub mod Ascii
