-- UTF-8: the well-formed byte sequences of the Unicode Standard, table 3-7, and the reader of byte texts.
use Rattle.std.specs.Prelude.{ℕ, cond, List, [], ◌∷◌}
use Rattle.theory.specs.Reader.{Reader}
use Rattle.theory.specs.Table.{Range, ◌to◌, within, Row, stray, foreign, Kind, read}

abbrev pub row : Range → List Range → Row
row lead later = record { lead = lead; later = later }

-- any later byte
abbrev pub next : Range
next = 0x80 to 0xBF

-- THE NINE ROWS
unfoldable pub rows : List Row
rows =
    row (0x00 to 0x7F) []
    ∷ row (0xC2 to 0xDF) (next ∷ [])
    ∷ row (0xE0 to 0xE0) (0xA0 to 0xBF ∷ next ∷ [])
    ∷ row (0xE1 to 0xEC) (next ∷ next ∷ [])
    ∷ row (0xED to 0xED) (0x80 to 0x9F ∷ next ∷ [])
    ∷ row (0xEE to 0xEF) (next ∷ next ∷ [])
    ∷ row (0xF0 to 0xF0) (0x90 to 0xBF ∷ next ∷ next ∷ [])
    ∷ row (0xF1 to 0xF3) (next ∷ next ∷ next ∷ [])
    ∷ row (0xF4 to 0xF4) (0x80 to 0x8F ∷ next ∷ next ∷ [])
    ∷ []

-- the cause of a byte that begins no row: a later byte is a stray one, and any other, as C0, C1 and F5..FF, stands in no sequence
abbrev pub lone_byte : ℕ → ℕ
lone_byte x = cond (within next x) stray foreign

-- the reader of byte texts
unfoldable pub bytes : Reader Kind
bytes x xs = read rows lone_byte x xs

-- the bytes of which the causes of lone ones speak
abbrev pub strays : List Range
strays = next ∷ []

abbrev pub foreigners : List Range
foreigners = 0xC0 to 0xC1 ∷ 0xF5 to 0xFF ∷ []
