-- UTF-16: the well-formed units and pairs, and the reader of texts of units.
use Rattle.std.specs.Prelude.{ℕ, List, [], ◌∷◌}
use Rattle.theory.specs.Reader.{Reader}
use Rattle.theory.specs.Table.{Range, ◌to◌, Row, stray, Kind, read}

-- a first half is followed by a second half; any other unit that is no half stands by itself
unfoldable pub rows : List Row
rows =
    record { lead = 0 to 0xD7FF; later = [] }
    ∷ record { lead = 0xD800 to 0xDBFF; later = 0xDC00 to 0xDFFF ∷ [] }
    ∷ record { lead = 0xE000 to 0xFFFF; later = [] }
    ∷ []

-- the cause of a unit that begins no row: it is a second half
abbrev pub lone_unit : ℕ → ℕ
lone_unit x = stray

-- the reader of texts of units
unfoldable pub units : Reader Kind
units x xs = read rows lone_unit x xs

-- the units of which the cause of lone ones speaks
abbrev pub strays : List Range
strays = 0xDC00 to 0xDFFF ∷ []
