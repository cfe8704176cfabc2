-- A match is found at places: a lookup by bytes grants one at its start and at its end
pub mod MatchAtPlaces
