-- The twelve classes of bytes, and the reader of byte texts by a table of classes.
use Rattle.std.specs.Prelude.{ℕ, Bool, cond, List, [], ◌∷◌, map, get_or, ltb}
use Rattle.theory.specs.Reader.{Reader}
use Rattle.theory.specs.Table.{Range, ◌to◌, within, among, Row, stray, foreign, Kind, read}
use Rattle.utf8.specs.Bytes.{row}

-- THE RANGES OF EACH CLASS, from class 0 on
unfoldable pub classes : List (List Range)
classes =
    (0x00 to 0x7F ∷ [])
    ∷ (0x80 to 0x8F ∷ [])
    ∷ (0x90 to 0x9F ∷ [])
    ∷ (0xA0 to 0xBF ∷ [])
    ∷ (0xC0 to 0xC1 ∷ 0xF5 to 0xFF ∷ [])
    ∷ (0xC2 to 0xDF ∷ [])
    ∷ (0xE0 to 0xE0 ∷ [])
    ∷ (0xE1 to 0xEC ∷ 0xEE to 0xEF ∷ [])
    ∷ (0xED to 0xED ∷ [])
    ∷ (0xF0 to 0xF0 ∷ [])
    ∷ (0xF1 to 0xF3 ∷ [])
    ∷ (0xF4 to 0xF4 ∷ [])
    ∷ []

-- a number lies in a class's ranges
abbrev pub in_class : ℕ → ℕ → Bool
in_class c x = among (get_or classes c []) x

-- how many there are, and what stands for none
abbrev pub unclassed : ℕ
unclassed = 12

-- the class that a table gives a byte; a number that is no byte has none
abbrev pub class_in : List ℕ → ℕ → ℕ
class_in table b = cond (ltb b 256) (get_or table b 0) unclassed

-- any later byte, by its class
abbrev pub any_later : Range
any_later = 1 to 3

-- THE NINE ROWS IN CLASSES: E1..EC and EE..EF have one
unfoldable pub rows_of_classes : List Row
rows_of_classes =
    row (0 to 0) []
    ∷ row (5 to 5) (any_later ∷ [])
    ∷ row (6 to 6) (3 to 3 ∷ any_later ∷ [])
    ∷ row (7 to 7) (any_later ∷ any_later ∷ [])
    ∷ row (8 to 8) (1 to 2 ∷ any_later ∷ [])
    ∷ row (9 to 9) (2 to 3 ∷ any_later ∷ any_later ∷ [])
    ∷ row (10 to 10) (any_later ∷ any_later ∷ any_later ∷ [])
    ∷ row (11 to 11) (1 to 1 ∷ any_later ∷ any_later ∷ [])
    ∷ []

-- the cause of a byte that begins no row, by its class
abbrev pub lone_class : ℕ → ℕ
lone_class c = cond (within any_later c) stray foreign

-- THE READER BY A TABLE OF CLASSES, whatever the table has
unfoldable pub by_classes : List ℕ → Reader Kind
by_classes table x xs = read rows_of_classes lone_class (class_in table x) (map (class_in table) xs)
