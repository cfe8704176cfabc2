-- What a wrapped call leaves that writes: its output, and what is told of it; where it is not called nothing is changed.
use Rattle.std.specs.Prelude.{◌≡◌, ℕ, Bool, cond, List}
use Rattle.terms.specs.Writing.{output_of}
use Rattle.bridge_numbers.specs.Telling.{Tells}

-- a call that writes a form of a text into a lent output
pub record Writes (called : Bool) (said form out out' says says' : List ℕ) (r : ℕ) : Type 0 where
  pub tells : Tells called said says says' r
  pub output : out' ≡ cond called (output_of said form out) out
