-- What a pass over the beginning of a text leaves: how much of the text it read, and what that takes in the other form.
use Rattle.std.specs.Prelude.{◌≡◌, ℕ, ◌≤◌, ◌<◌, List, ◌++◌, length, drop}
use Rattle.terms.specs.Form.{Form, converted}
use Rattle.convert_point.specs.Puts.{Puts}

-- what was read ends at a boundary: behind its form stands that of the rest of the text
pub record Passes (F G : Form) (text : List ℕ) (read places : ℕ) : Type 0 where
  pub some : 0 < read
  pub inside : read ≤ length text
  pub form : List ℕ
  pub count : places ≡ length form
  pub parted : converted F G text ≡ form ++ converted F G (drop read text)

-- and it is written to the start of an output
pub record PassesTo (F G : Form) (text out out' : List ℕ) (read places : ℕ) : Type 0 where
  pub passes : Passes F G text read places
  pub puts : Puts passes.form out out' places
