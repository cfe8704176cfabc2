-- A step of the writer of code points: some bytes of a text are passed over and written, and the text behind them has no damage either.
use Rattle.std.specs.Prelude.{◌≡◌, ℕ, List, [], drop}
use Rattle.terms.specs.Strict.{damages}
use Rattle.utf8.specs.Bytes.{bytes}
use Rattle.utf8.specs.Scalar.{utf8}
use Rattle.code_points.specs.Points.{code_points}
use Rattle.convert_point.specs.Inside.Passes.{PassesTo}

pub record Steps (text out out' : List ℕ) (passed put : ℕ) : Type 0 where
  pub passes : PassesTo utf8 code_points text out out' passed put
  pub behind : damages bytes (drop passed text) ≡ []
