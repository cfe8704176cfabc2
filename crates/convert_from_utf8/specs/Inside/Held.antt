-- How far a page has the code points of a byte text with no damage, and the strides of the walks that test them and write them.
use Rattle.std.specs.Prelude.{◌≡◌, ℕ, ◌+◌, ◌≤◌, cond, Option, Some, None, List, [], length, drop}
use Rattle.theory.specs.Reader.{cut}
use Rattle.terms.specs.Strict.{damages}
use Rattle.utf8.specs.Bytes.{bytes}
use Rattle.utf8.specs.Scalar.{utf8}
use Rattle.page.specs.Paged.{place_of, has, paged}
use Rattle.page.specs.Lacking.{lacking, first_or}
use Rattle.convert_point.specs.Inside.Passes.{PassesTo}

-- the first place at which a number stands in a table, if there is one
abbrev pub place_in : ℕ → List ℕ → Option ℕ
place_in c table = cond (has table c) (Some (place_of c table)) None

-- a text that a page can hold: it has no damage, and the page lacks none of its code points
abbrev pub Fits : List ℕ → List ℕ → Type 0
Fits table text = (damages bytes text ≡ []) × (lacking table 0 (cut bytes text) ≡ [])

-- the page has each code point of the bytes passed over, wherever the text starts, and behind them there is no damage
pub record Reached (table text : List ℕ) (passed : ℕ) : Type 0 where
  pub inside : passed ≤ length text
  pub same : (at : ℕ) → lacking table at (cut bytes text) ≡ lacking table (at + passed) (cut bytes (drop passed text))
  pub behind : damages bytes (drop passed text) ≡ []

-- a stride of the test: nothing is passed over only where the first code point is lacking
pub record Held (table text : List ℕ) (passed : ℕ) : Type 0 where
  pub reached : Reached table text passed
  pub ended : passed ≡ 0 → (other at : ℕ) → first_or other (lacking table at (cut bytes text)) ≡ at

-- a stride of the writer: the page can hold what is behind it too
pub record Places (table text out out' : List ℕ) (passed put : ℕ) : Type 0 where
  pub passes : PassesTo utf8 (paged table) text out out' passed put
  pub behind : Fits table (drop passed text)
