-- The three pages: a page is a table of 256 numbers, and the number of a byte stands at its place
pub mod Tables
-- A page as a form of text: each byte is a segment, and stands for the number at its place
pub mod Paged
-- Conversion into a page: a code point that the page lacks is refused
pub mod Lacking
