-- Texts of code points: each number is a segment, whole if it is a scalar value.
use Rattle.std.specs.Prelude.{ℕ, true, cond, List, [], ◌∷◌}
use Rattle.theory.specs.Reader.{Reader}
use Rattle.theory.specs.Table.{foreign, Kind, whole, damage}
use Rattle.theory.specs.Tally.{Entry}
use Rattle.terms.specs.Form.{is_scalar, Form}
use Rattle.terms.specs.Strict.{damages, strictly, limited}

-- the reader of texts of code points: a number that is no scalar value stands in no text
unfoldable pub points : Reader Kind
points x xs = record { more = 0; tag = cond (is_scalar x) whole (damage foreign); sure = true }

abbrev pub number : List ℕ → ℕ
number [] = 0
number (x ∷ xs) = x

-- code points as a form of text
abbrev pub code_points : Form
code_points = record { look = points; value = number; write = λ c. c ∷ [] }

-- refusal 9 tells the position of the first number that is no scalar value
abbrev pub no_scalar : Entry Kind → List ℕ
no_scalar e = 9 ∷ e.start ∷ []

-- THE STRICT CHECK of code points: refusal 2, then 9, or well-formed
abbrev pub points_say : List ℕ → List ℕ
points_say text = limited text (strictly no_scalar (damages points text) (0 ∷ []))
