-- A needle compared with an entry by indices: where it stands, how far it agrees, and where it cannot stand
pub mod Compared
-- Greatest suffixes, their periods, and the cut of a needle that a two-way search leans on
pub mod Cuts
