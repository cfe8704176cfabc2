-- Units in pairs: a first half stands exactly where a second half stands behind it.
use Rattle.std.specs.Prelude.{◌≡◌, ℕ, suc, ◌+◌, ◌≤◌, ◌<◌, Bool, ◌&&◌, List, length, get_or, drop, leb}
use Rattle.theory.specs.Reader.{cut}
use Rattle.theory.specs.Table.{is_damage}
use Rattle.theory.specs.Tally.{entries}
use Rattle.utf16.specs.Units.{units}

-- the first half of a pair, and the second
abbrev pub is_first : ℕ → Bool
is_first x = leb 0xD800 x && leb x 0xDBFF

abbrev pub is_second : ℕ → Bool
is_second x = leb 0xDC00 x && leb x 0xDFFF

-- so it is of the first n units of a text
pub record Paired (text : List ℕ) (n : ℕ) : Type 0 where
  pub each : (k : ℕ) → k < n → is_first (get_or text k 0) ≡ is_second (get_or text (suc k) 0)

-- the first n units of a text are whole segments: its damages are those of the rest
pub record WholeTo (text : List ℕ) (n : ℕ) : Type 0 where
  pub inside : n ≤ length text
  pub same : (at : ℕ) → entries is_damage at (cut units text) ≡ entries is_damage (at + n) (cut units (drop n text))
