-- A number stored with one place more than it takes, which is stored over by what comes next.
use Rattle.std.specs.Prelude.{◌≡◌, ℕ, ◌+◌, ◌/◌, ◌≤◌, cond, List, ◌++◌, length, drop, ltb}

-- the first byte of a number below 0x800
abbrev pub first_of : ℕ → ℕ
first_of n = cond (ltb n 0x80) n (0xC0 + n / 0x40)

-- these elements are put, so many they are, and at most one place behind them changes
pub record Stores (vs out out' : List ℕ) (n : ℕ) : Type 0 where
  pub count : n ≡ length vs
  pub over : List ℕ
  pub few : length over ≤ 1
  pub output : out' ≡ (vs ++ over) ++ drop (length (vs ++ over)) out
