-- There and back: what two strict conversions leave in the lent buffers, and the answer.
use Rattle.std.specs.Prelude.{◌≡◌, ℕ, Bool, true, List, length}
use Rattle.theory.specs.Table.{Kind}
use Rattle.theory.specs.Tally.{Entry}
use Rattle.terms.specs.Form.{Form, converted}
use Rattle.terms.specs.Told.{if_granted}
use Rattle.terms.specs.Writing.{output_of, convert_says}
use Rattle.demand_shared.specs.Equal.{equal}
use Rattle.demand_convert.specs.Due.{due_back}

-- the way back, from form G to form F: whether it gives the text, or where it is refused whether that was due
pub record Back (refuse : Entry Kind → List ℕ) (G F : Form) (text between back back' : List ℕ) (r : Bool) : Type 0 where
  pub answer : r ≡ if_granted (convert_says refuse G F (length back) between) (equal text (converted G F between))
      (due_back (convert_says refuse G F (length back) between) (length between) (length back) (length text))
  pub returned : back' ≡ output_of (convert_says refuse G F (length back) between) (converted G F between) back

-- THERE AND BACK, from form F to form G: the answer is yes; the form between is written where the first step is granted, and
-- where both are, the other buffer holds the text
pub record Round (refuse refuse' : Entry Kind → List ℕ) (F G : Form) (text between back between' back' : List ℕ) (r : Bool) : Type 0 where
  pub yes : r ≡ true
  pub there : between' ≡ output_of (convert_says refuse F G (length between) text) (converted F G text) between
  pub returned : back'
      ≡ if_granted (convert_says refuse F G (length between) text) (output_of (convert_says refuse' G F (length back) (converted F G text)) text back) back
