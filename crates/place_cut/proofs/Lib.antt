-- The last place that counts at most so much, by any measure, from the place that a walk has reached
pub mod LastPlaceKept
