-- The number that a unit or a pair stands for, and the unit or the pair of a scalar value.
use Rattle.std.specs.Prelude.{ℕ, ◌+◌, ◌-◌, ◌*◌, ◌/◌, ◌%◌, cond, List, [], ◌∷◌, ltb}
use Rattle.terms.specs.Form.{Form}
use Rattle.utf16.specs.Units.{units}

abbrev pub number : List ℕ → ℕ
number [] = 0
number (x ∷ []) = x
number (x ∷ y ∷ ys) = 0x10000 + (x - 0xD800) * 0x400 + (y - 0xDC00)

-- two units exactly if it is U+10000 or more
abbrev pub pair : ℕ → List ℕ
pair c = cond (ltb c 0x10000) (c ∷ []) ((0xD800 + (c - 0x10000) / 0x400) ∷ (0xDC00 + (c - 0x10000) % 0x400) ∷ [])

-- UTF-16 as a form of text
abbrev pub utf16 : Form
utf16 = record { look = units; value = number; write = pair }
