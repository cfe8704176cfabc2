-- Cut by a count of a place, a text is what lies before it
pub mod CutIsBefore
