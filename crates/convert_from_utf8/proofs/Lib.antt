-- Runs of whole segments in the walks that count and write units: what is counted and spelled at once
pub mod RunsSpelled
-- What a text spells: by the kind of its first byte, and over its ascii beginning
pub mod SpelledByKind
-- THE LAW OF SPELLING: where all segments of a byte text are whole, it spells its own units
pub mod SpellsItsUnits
-- The strides of the writer: what a walk has written is a stride, and strides make the walk of the whole text
pub mod StridesWalk
-- The need of a byte text with no damage, as units and as code points: the sums of its bytes; and in a page, as code points
pub mod SumsAreNeeds
-- The code point that stands first in a byte text with no damage: its first byte tells how many bytes it has
pub mod FirstByteTells
-- A beginning of bytes below 0x80: each is a segment of its own, so it stays as it is in any form that writes them as they are
pub mod AsciiBeginning
-- The steps of the writer of code points: one code point, or an ascii beginning; and a step of the text from a place on, in the walk
pub mod StepsWalk
-- The place of a number in a table, searched from a place on; in a page it is any at which the number stands
pub mod PlaceFound
-- The walk that tests whether a page has the code points of a text: what it has passed over, and what its end says
pub mod HeldWalk
-- The walk that writes a text in a page which has its code points: one place more, or an ascii beginning, and a stride of the whole text
pub mod PlacesWalk
