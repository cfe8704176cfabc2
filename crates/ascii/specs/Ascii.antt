-- How many bytes at the start of a text are below 0x80, and how many of them fill blocks.
use Rattle.std.specs.Prelude.{ℕ, suc, ◌*◌, ◌/◌, ◌<◌, cond, List, [], ◌∷◌, get_or, ltb}

-- the first n bytes of a text are below 0x80
abbrev pub Ascii : List ℕ → ℕ → Type 0
Ascii text n = (k : ℕ) → k < n → get_or text k 0 < 0x80

-- how many bytes at the start of a text are below 0x80
abbrev pub leading : List ℕ → ℕ
leading [] = 0
leading (x ∷ xs) = cond (ltb x 0x80) (suc (leading xs)) 0

-- as many of them as fill blocks of 64
abbrev pub run_of : List ℕ → ℕ
run_of text = leading text / 64 * 64
