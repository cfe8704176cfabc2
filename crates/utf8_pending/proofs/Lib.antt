-- The settled segment that stands first in a text
pub mod SettledFirst
-- The seam of what is pending and a piece: its first segment is that of both, and reaches over all that is pending
pub mod SeamIsFirst
-- How pending bytes are tested, and kept in their places
pub mod HeldInPlaces
