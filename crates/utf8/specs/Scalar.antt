-- The number that a well-formed byte sequence stands for, and the sequence of a scalar value.
use Rattle.std.specs.Prelude.{ℕ, ◌+◌, ◌*◌, ◌/◌, ◌%◌, cond, List, [], ◌∷◌, ltb}
use Rattle.terms.specs.Form.{Form}
use Rattle.utf8.specs.Bytes.{bytes}
use Rattle.utf8.specs.Classes.{by_classes}

-- byte 1 gives its low 7, 5, 4 or 3 bits for lengths 1 to 4, each later byte its low 6, highest first
abbrev pub number : List ℕ → ℕ
number [] = 0
number (a ∷ []) = a % 0x80
number (a ∷ b ∷ []) = a % 0x20 * 0x40 + b % 0x40
number (a ∷ b ∷ c ∷ []) = (a % 0x10 * 0x40 + b % 0x40) * 0x40 + c % 0x40
number (a ∷ b ∷ c ∷ d ∷ xs) = ((a % 0x08 * 0x40 + b % 0x40) * 0x40 + c % 0x40) * 0x40 + d % 0x40

-- a later byte, from the low 6 bits of a number
abbrev pub later : ℕ → ℕ
later c = 0x80 + c % 0x40

abbrev pub sequence : ℕ → List ℕ
sequence c =
    cond (ltb c 0x80) (c ∷ [])
    (cond (ltb c 0x800) ((0xC0 + c / 0x40) ∷ later c ∷ [])
    (cond (ltb c 0x10000) ((0xE0 + c / 0x1000) ∷ later (c / 0x40) ∷ later c ∷ [])
    ((0xF0 + c / 0x40000) ∷ later (c / 0x1000) ∷ later (c / 0x40) ∷ later c ∷ [])))

-- UTF-8 as a form of text
abbrev pub utf8 : Form
utf8 = record { look = bytes; value = number; write = sequence }

-- and as it is read by a table of classes
abbrev pub utf8_by : List ℕ → Form
utf8_by table = record { look = by_classes table; value = number; write = sequence }
