-- The form that a text has, or into which it is converted
pub mod Target
-- What a writer leaves: elements at the start of an output, and their number; those of one code point, where they fit
pub mod Puts
-- Elements as the numbers that they are: a number for each, in their order
pub mod Numbers
-- The room that is enough: the most places that a text of so many elements can need in a form
pub mod Room
-- What private steps promise each other
pub mod Inside
