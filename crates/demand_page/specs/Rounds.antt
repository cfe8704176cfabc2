-- There and back: what two conversions leave in the lent buffers, and the answer; a conversion is what it says and what it writes.
use Rattle.std.specs.Prelude.{◌≡◌, Bool, true, List, ℕ, length}
use Rattle.terms.specs.Form.{converted}
use Rattle.terms.specs.Told.{if_granted}
use Rattle.terms.specs.Writing.{output_of, repair_says}
use Rattle.utf8.specs.Scalar.{utf8}
use Rattle.page.specs.Paged.{paged}
use Rattle.demand_shared.specs.Equal.{equal}
use Rattle.demand_convert.specs.Due.{due_back}

-- what a page text is as bytes, and what the call says of it
abbrev pub as_bytes : List ℕ → List ℕ → List ℕ
as_bytes table text = converted (paged table) utf8 text

abbrev pub as_bytes_says : List ℕ → ℕ → List ℕ → List ℕ
as_bytes_says table room text = repair_says room text (as_bytes table text)

-- what a byte text is in a page
abbrev pub in_page : List ℕ → List ℕ → List ℕ
in_page table text = converted utf8 (paged table) text

-- the way back: whether it gives the text, or where it is refused whether that was due
pub record Back (says to : List ℕ → List ℕ) (text between back back' : List ℕ) (r : Bool) : Type 0 where
  pub answer : r ≡ if_granted (says between) (equal text (to between)) (due_back (says between) (length between) (length back) (length text))
  pub returned : back' ≡ output_of (says between) (to between) back

-- THERE AND BACK: the answer is yes; what is between is written where the first step is granted, and where both are, the other buffer
-- holds the text
pub record Round (says to says' : List ℕ → List ℕ) (text between back between' back' : List ℕ) (r : Bool) : Type 0 where
  pub yes : r ≡ true
  pub there : between' ≡ output_of (says text) (to text) between
  pub returned : back' ≡ if_granted (says text) (output_of (says' (to text)) text back) back
