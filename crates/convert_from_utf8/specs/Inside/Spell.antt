-- The units of a byte text, where a first byte alone says how many bytes its sequence has: no byte behind it is tested.
use Rattle.std.specs.Prelude.{ℕ, zero, suc, ◌+◌, ◌*◌, ◌/◌, ◌%◌, cond, List, [], ◌∷◌, ◌++◌, length, get_or, leb, ltb}

-- how many bytes a first byte wants behind it
unfoldable pub wants : ℕ → ℕ
wants a = cond (ltb a 0x80) 0 (cond (ltb a 0xE0) 1 (cond (ltb a 0xF0) 2 3))

-- the unit of a sequence of two and of three, and the halves of the pair of one of four
abbrev pub two : ℕ → ℕ → ℕ
two a b = a % 0x20 * 0x40 + b % 0x40

abbrev pub three : ℕ → ℕ → ℕ → ℕ
three a b c = a % 0x10 * 0x1000 + b % 0x40 * 0x40 + c % 0x40

abbrev pub first_half : ℕ → ℕ → ℕ → ℕ
first_half a b c = 0xD7C0 + a % 0x08 * 0x100 + b % 0x40 * 0x04 + c % 0x40 / 0x10

abbrev pub second_half : ℕ → ℕ → ℕ
second_half c d = 0xDC00 + c % 0x10 * 0x40 + d % 0x40

-- the units of the sequence that begins with a: b, c and d are the bytes behind it, as far as it has them
unfoldable pub units : ℕ → ℕ → ℕ → ℕ → List ℕ
units a b c d =
    cond (ltb a 0x80) (a ∷ [])
    (cond (ltb a 0xE0) (two a b ∷ [])
    (cond (ltb a 0xF0) (three a b c ∷ []) (first_half a b c ∷ second_half c d ∷ [])))

-- the units of a text behind its first k bytes, which are passed over one by one; a sequence that the text's end cuts short has none
unfoldable pub spelled_from : ℕ → List ℕ → List ℕ
spelled_from k [] = []
spelled_from zero (x ∷ xs) = cond (leb (wants x) (length xs)) (units x (get_or xs 0 0) (get_or xs 1 0) (get_or xs 2 0) ++ spelled_from (wants x) xs) []
spelled_from (suc k) (x ∷ xs) = spelled_from k xs

-- WHAT A TEXT SPELLS
unfoldable pub spelled : List ℕ → List ℕ
spelled xs = spelled_from zero xs
