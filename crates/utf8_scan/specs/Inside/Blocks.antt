-- Bytes that stand well, as the tests of a block find them: so many at least.
use Rattle.std.specs.Prelude.{ℕ, ◌<◌, ◌≤◌, ◌≡◌, true, List, ◌∷◌, length, drop, get_or}
use Rattle.utf8_scan.specs.Stands.{stands}

-- the fourth byte of a text stands well
abbrev pub StandsIn : List ℕ → Type 0
StandsIn z = stands (get_or z 0 0) (get_or z 1 0) (get_or z 2 0) (get_or z 3 0) ≡ true

-- a test of four bytes is below 0x80 only where the last of them stands well
abbrev pub Sound : (ℕ → ℕ → ℕ → ℕ → ℕ → Type 0) → List ℕ → Type 0
Sound test z = (e : ℕ) → test (get_or z 0 0) (get_or z 1 0) (get_or z 2 0) (get_or z 3 0) e → e < 0x80 → StandsIn z

-- each of the n bytes behind the first three does
abbrev pub Stand : List ℕ → ℕ → Type 0
Stand z n = (k : ℕ) → k < n → StandsIn (drop k z)

-- the first n bytes of a text are below a bound
abbrev pub Below : List ℕ → ℕ → ℕ → Type 0
Below t n bound = (k : ℕ) → k < n → get_or t k 0 < bound

-- a text's first n bytes are below 0x80
pub record Ascii (text : List ℕ) (n : ℕ) : Type 0 where
  pub inside : n ≤ length text
  pub below : Below text n 0x80

-- a text behind three bytes that ask for nothing
abbrev pub padded : List ℕ → List ℕ
padded text = 0 ∷ 0 ∷ 0 ∷ text

-- each of a text's first n bytes stands well
pub record Good (text : List ℕ) (n : ℕ) : Type 0 where
  pub inside : n ≤ length text
  pub stand : Stand (padded text) n
