-- Units that stand alone: none is a half of a pair.
use Rattle.std.specs.Prelude.{ℕ, Bool, true, ◌&&◌, ◌||◌, List, [], ◌∷◌, ltb}

-- 0 to 0xD7FF, or 0xE000 to 0xFFFF
abbrev pub alone : ℕ → Bool
alone x = ltb x 0xD800 || ltb 0xDFFF x && ltb x 0x10000

abbrev pub all_alone : List ℕ → Bool
all_alone [] = true
all_alone (x ∷ xs) = alone x && all_alone xs
