-- Whether a byte stands well behind the three before it: well-formedness as a test of four bytes in a row.
use Rattle.std.specs.Prelude.{ℕ, zero, suc, ◌-◌, Bool, not, cond, ◌&&◌, ◌||◌, List, [], ◌∷◌, get_or, leb, ltb, eqb}

-- a later byte
abbrev pub is_later : ℕ → Bool
is_later b = leb 0x80 b && ltb b 0xC0

-- the second byte behind b1 is from the low one on, and below the high one
abbrev pub low_of : ℕ → ℕ
low_of b1 = cond (eqb b1 0xE0) 0xA0 (cond (eqb b1 0xF0) 0x90 0x80)

abbrev pub high_of : ℕ → ℕ
high_of b1 = cond (eqb b1 0xED) 0xA0 (cond (eqb b1 0xF4) 0x90 0xC0)

-- b1 begins a sequence of two bytes or more, and b0 may be its second
abbrev pub second : ℕ → ℕ → Bool
second b1 b0 = (leb 0xC2 b1 && ltb b1 0xF5) && (leb (low_of b1) b0 && ltb b0 (high_of b1))

-- b0 STANDS WELL behind b3, b2 and b1: as the second byte, where b1 begins a sequence; as a later byte, where b2 began one of
-- three or more, or b3 one of four; and as no later byte elsewhere
unfoldable pub stands : ℕ → ℕ → ℕ → ℕ → Bool
stands b3 b2 b1 b0 = cond (leb 0xC0 b1) (second b1 b0) (cond (leb 0xE0 b2 || leb 0xF0 b3) (is_later b0) (not (is_later b0)))

-- how many bytes at the start of a text stand well behind these three
abbrev pub standing_from : ℕ → ℕ → ℕ → List ℕ → ℕ
standing_from b3 b2 b1 [] = zero
standing_from b3 b2 b1 (b ∷ bs) = cond (stands b3 b2 b1 b) (suc (standing_from b2 b1 b bs)) zero

-- THE LENGTH OF THE LONGEST BEGINNING IN WHICH EACH BYTE STANDS WELL; nothing is asked for before the text
abbrev pub standing : List ℕ → ℕ
standing text = standing_from 0 0 0 text

-- how many bytes at the end of three wait for more
unfoldable pub waiting : ℕ → ℕ → ℕ → ℕ
waiting b3 b2 b1 = cond (leb 0xC0 b1) 1 (cond (leb 0xE0 b2) 2 (cond (leb 0xF0 b3) 3 0))

-- the byte so many before a place, and 0 where there is none
abbrev pub before : List ℕ → ℕ → ℕ → ℕ
before text at k = cond (ltb at k) 0 (get_or text (at - k) 0)

-- HOW MANY BYTES BEFORE A PLACE WAIT FOR MORE, where those before it stand well
abbrev pub waiting_at : List ℕ → ℕ → ℕ
waiting_at text at = waiting (before text at 3) (before text at 2) (before text at 1)
