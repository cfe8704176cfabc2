-- A page as a form of text: each byte is a segment, and stands for the number at its place in the page's table.
use Rattle.std.specs.Prelude.{◌≡◌, ℕ, suc, ◌<◌, Bool, true, cond, List, [], ◌∷◌, length, get_or, ltb, eqb}
use Rattle.theory.specs.Reader.{Reader}
use Rattle.theory.specs.Table.{foreign, Kind, whole, damage}
use Rattle.terms.specs.Form.{is_scalar, Form}

-- the first place at which a number stands in a table; where it stands nowhere, as many as there are
abbrev pub place_of : ℕ → List ℕ → ℕ
place_of c [] = 0
place_of c (n ∷ ns) = cond (eqb n c) 0 (suc (place_of c ns))

-- a page has the numbers that stand in its table, and lacks every other
abbrev pub has : List ℕ → ℕ → Bool
has table c = ltb (place_of c table) (length table)

-- the reader of page texts: no byte is damage
unfoldable pub single : Reader Kind
single x xs = record { more = 0; tag = cond (ltb x 256) whole (damage foreign); sure = true }

abbrev pub number_in : List ℕ → List ℕ → ℕ
number_in table [] = 0
number_in table (x ∷ xs) = get_or table x 0

-- A PAGE AS A FORM, whatever its table has
abbrev pub paged : List ℕ → Form
paged table = record { look = single; value = number_in table; write = λ c. place_of c table ∷ [] }

-- what the table of a page is: 256 numbers that are scalar values, no two alike
pub record IsPage (table : List ℕ) : Type 0 where
  pub long : length table ≡ 256
  pub scalar : (b : ℕ) → b < 256 → is_scalar (get_or table b 0) ≡ true
  pub apart : (a b : ℕ) → a < 256 → b < 256 → get_or table a 0 ≡ get_or table b 0 → a ≡ b

-- its bytes below 0x80 are their own numbers
abbrev pub Keeps : List ℕ → Type 0
Keeps table = (b : ℕ) → b < 0x80 → get_or table b 0 ≡ b
