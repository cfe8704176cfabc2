-- Tables whose numbers are units, so that none takes more than three bytes.
use Rattle.std.specs.Prelude.{ℕ, ◌<◌, List, get_or}

abbrev pub AreUnits : List ℕ → Type 0
AreUnits table = (b : ℕ) → b < 256 → get_or table b 0 < 0x10000
