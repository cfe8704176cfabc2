-- The refusals of a conversion into a page, in their order
pub mod InTheirOrder
-- The first place of a number in a table, and the only one in a page
pub mod PlaceInTable
-- A page is a form that is read faithfully, and written as far as it has the numbers
pub mod PageForm
-- Segments of which a page lacks no code point: it has each of them, and where one is lacking is inside the text
pub mod NoneLacking
-- THE ROUND TRIPS, over any page: from a page text and back, and from a byte text that the page has
pub mod PageRoundTrip
-- The three pages are pages, by one test each of all their numbers
pub mod ThreePages
