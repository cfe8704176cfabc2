-- The longest beginning of a byte text that is made of whole segments.
use Rattle.std.specs.Prelude.{ℕ, List, [], ◌∷◌, length}
use Rattle.theory.specs.Table.{Kind}
use Rattle.theory.specs.Tally.{Entry}
use Rattle.terms.specs.Strict.{damages}
use Rattle.utf8.specs.Bytes.{bytes}

-- the start of the first of these damages, or the end where there is none
abbrev pub start_or : List (Entry Kind) → ℕ → ℕ
start_or [] end = end
start_or (e ∷ es) end = e.start

-- HOW MANY BYTES COME BEFORE THE FIRST DAMAGE: all of them, where there is none
abbrev pub whole_run : List ℕ → ℕ
whole_run text = start_or (damages bytes text) (length text)
