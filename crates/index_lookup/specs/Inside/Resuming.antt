-- Lookup from a checkpoint on: which ones may be asked for, what it tells, and the refusals before it.
use Rattle.std.specs.Prelude.{ℕ, ◌*◌, ◌≤◌, cond, List, [], ◌∷◌, length, ltb}
use Rattle.theory.specs.Index.{from}
use Rattle.terms.specs.Limits.{limit}
use Rattle.place.specs.Measures.{ruler, reader, longest}
use Rattle.place.specs.Lookup.{found_says}
use Rattle.place.specs.Walk.{number, measure, fair}
use Rattle.place.specs.declared.Offset.{Offset}
use Rattle.index_checkpoint.specs.Checkpoints.{spacing, needed, checkpoint}

-- checkpoint j is one of the text's
pub record Among (j : ℕ) (text : List ℕ) : Type 0 where
  pub within : length text ≤ limit
  pub reached : spacing * j ≤ length text

-- lookup from it on
abbrev pub from_says : Offset → ℕ → List ℕ → List ℕ → List ℕ
from_says to j text row = found_says (from reader ruler longest spacing fair (measure to) (number to) j (checkpoint row j) text)

-- the refusals before it, by the length of the text: 2, then 3
abbrev pub room_says : ℕ → List ℕ → List ℕ → List ℕ
room_says long row granted = cond (ltb limit long) (2 ∷ []) (cond (ltb (length row) (needed long)) (3 ∷ needed long ∷ []) granted)
