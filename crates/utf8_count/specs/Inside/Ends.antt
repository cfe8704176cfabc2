-- How a part's line ends are counted quickly.
use Rattle.std.specs.Prelude.{◌≡◌, ℕ, ◌≤◌, cond, List, get_or, eqb}

-- x by itself ends a line, where y stands behind it: 0A, or a 0D that no 0A follows
abbrev pub short_end : ℕ → ℕ → ℕ
short_end x y = cond (eqb x 0x0A) 1 (cond (eqb x 0x0D) (cond (eqb y 0x0A) 0 1) 0)

-- a byte that may begin a line's end of more than one byte
abbrev pub long_of : ℕ → ℕ
long_of x = cond (eqb x 0xC2) 1 (cond (eqb x 0xE2) 1 0)

-- nothing but 0 from n on
abbrev pub ZeroFrom : ℕ → List ℕ → Type 0
ZeroFrom n row = (i : ℕ) → n ≤ i → get_or row i 0 ≡ 0
