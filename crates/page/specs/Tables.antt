-- The three pages: a page is a table of 256 numbers, and the number of a byte stands at its place.
use Rattle.std.specs.Prelude.{ℕ, zero, suc, List, [], ◌∷◌, ◌++◌, set}
use Rattle.page.specs.declared.Page.{Page}
use Rattle.page.specs.declared.Page.TheVariants.{Iso8859_1, Iso8859_5, Iso8859_15}

-- so many numbers, from one on
abbrev pub numbers_from : ℕ → ℕ → List ℕ
numbers_from n zero = []
numbers_from n (suc more) = n ∷ numbers_from (suc n) more

-- a table, but for some bytes that have other numbers
abbrev pub but : List ℕ → List (ℕ × ℕ) → List ℕ
but table [] = table
but table (other ∷ others) = but (set table other.0 other.1) others

-- ISO 8859-1: each byte is its own number
unfoldable pub iso8859_1 : List ℕ
iso8859_1 = numbers_from 0x00 256

-- ISO 8859-15: the same but for eight bytes
unfoldable pub iso8859_15 : List ℕ
iso8859_15 =
    but (numbers_from 0x00 256)
    ((0xA4, 0x20AC)
    ∷ (0xA6, 0x160)
    ∷ (0xA8, 0x161)
    ∷ (0xB4, 0x17D)
    ∷ (0xB8, 0x17E)
    ∷ (0xBC, 0x152)
    ∷ (0xBD, 0x153)
    ∷ (0xBE, 0x178)
    ∷ [])

-- ISO 8859-5: 00..A0 and AD are themselves; A1..AC are 401..40C; AE..FF are 40E..45F but F0 is 2116 and FD is A7
unfoldable pub iso8859_5 : List ℕ
iso8859_5 =
    but (numbers_from 0x00 161 ++ numbers_from 0x401 12 ++ numbers_from 0xAD 1 ++ numbers_from 0x40E 82)
    ((0xF0, 0x2116) ∷ (0xFD, 0xA7) ∷ [])

-- THE TABLE OF A PAGE
abbrev pub table_of : Page → List ℕ
table_of Iso8859_1 = iso8859_1
table_of Iso8859_5 = iso8859_5
table_of Iso8859_15 = iso8859_15
