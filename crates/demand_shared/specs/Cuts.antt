-- Cut positions, which may be any numbers.
use Rattle.std.specs.Prelude.{ℕ, cond, ltb}

-- a cut position is brought between the previous one and the end
abbrev pub bring : ℕ → ℕ → ℕ → ℕ
bring cut from end = cond (ltb cut from) from (cond (ltb end cut) end cut)
