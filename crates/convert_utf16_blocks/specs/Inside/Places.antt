-- The three bytes that a unit may take: its sequence is the first one, two or three of them.
use Rattle.std.specs.Prelude.{◌≡◌, ℕ, ◌+◌, ◌*◌, ◌/◌, ◌≤◌, ◌<◌, cond, List, length, get_or, take, drop, ltb}
use Rattle.utf8.specs.Scalar.{later}
use Rattle.convert_utf16_blocks.specs.Block.{bytes_of}

-- how many bytes a unit takes
abbrev pub size_of : ℕ → ℕ
size_of x = cond (ltb x 0x80) 1 (cond (ltb x 0x800) 2 3)

-- its first byte, and its second where it has one; the third is its last six bits
abbrev pub first_byte : ℕ → ℕ
first_byte x = cond (ltb x 0x80) x (cond (ltb x 0x800) (0xC0 + x / 0x40) (0xE0 + x / 0x1000))

abbrev pub second_byte : ℕ → ℕ
second_byte x = cond (ltb x 0x800) (later x) (later (x / 0x40))

-- a row holds what a function gives for each unit
pub record Mapped (gives : ℕ → ℕ → Type 0) (units row : List ℕ) : Type 0 where
  pub each : (k : ℕ) → k < length units → gives (get_or units k 0) (get_or row k 0)

-- the bytes of the first n units stand at the start of the output, and the places that are some behind them keep what they held
pub record Squeezed (units : List ℕ) (n some : ℕ) (out out' : List ℕ) (places : ℕ) : Type 0 where
  pub long : length out' ≡ length out
  pub count : places ≡ length (bytes_of (take n units))
  pub few : places ≤ 3 * n
  pub form : take places out' ≡ bytes_of (take n units)
  pub kept : drop (places + some) out' ≡ drop (places + some) out
