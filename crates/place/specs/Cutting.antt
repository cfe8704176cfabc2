-- Cutting: the longest beginning of a text that ends at a boundary and stays within a maximum.
use Rattle.std.specs.Prelude.{ℕ, List, take}
use Rattle.theory.specs.Reader.{cut}
use Rattle.theory.specs.Place.{last}
use Rattle.place.specs.Measures.{ruler, reader}
use Rattle.place.specs.declared.Place.{Place}

-- where the last place whose count is at most `most` lies
abbrev pub ending : (Place → ℕ) → ℕ → List ℕ → ℕ
ending measure most text = (last ruler.step measure most ruler.zeroth (cut reader text)).bytes

abbrev pub beginning : (Place → ℕ) → ℕ → List ℕ → List ℕ
beginning measure most text = take (ending measure most text) text
