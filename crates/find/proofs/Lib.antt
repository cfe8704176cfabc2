-- THE FIRST MATCH IS THE SMALLEST OFFSET where the needle's bytes stand, and there is none exactly if they stand nowhere
pub mod FirstMatch
-- The walk that finds the greatest suffix and its least period: what it knows, and that each of its steps keeps it
pub mod GreatestGrows
-- THE CRITICAL FACTORIZATION THEOREM: the later of the two greatest suffixes' starts is a cut that a two-way search can lean on
pub mod CriticalCut
-- The walk of a search: no match lies before the place that it has come to, and so many bytes there are known to match
pub mod SearchWalks
-- Places that are passed over: where two bytes of the needle do not both stand, the needle does not
pub mod PlacesPassed
-- The checks before a search: what they refuse the search refuses alike, and what they grant it answers with its first match
pub mod CheckedFirst
-- A MATCH OF A NON-EMPTY NEEDLE BEGINS AND ENDS AT BOUNDARIES of the entry, damaged or not
pub mod MatchAtBoundaries
-- What a search tells loses nothing: two answers that tell the same are equal
pub mod ToldBack
