-- A walk over the places of a text: the offset that it goes to, one step of it, and what is found from a place on.
use Rattle.std.specs.Prelude.{ℕ, ◌+◌, ◌%◌, ◌^◌, ◌<◌, Bool, cond, ◌&&◌, List, [], ◌∷◌, length, ◌==◌, nat_le, nat_lt}
use Rattle.theory.specs.Reader.{Reader, first, cut}
use Rattle.theory.specs.Table.{Kind}
use Rattle.theory.specs.Tally.{size}
use Rattle.theory.specs.Place.{lookup, last}
use Rattle.terms.specs.Limits.{limit}
use Rattle.place.specs.Measures.{place, ruler, reader}
use Rattle.place.specs.Lookup.{four_counts, found_says}
use Rattle.place.specs.declared.Place.{Place}
use Rattle.place.specs.declared.Offset.{Offset}
use Rattle.place.specs.declared.Offset.TheVariants.{Byte, Unit, Point, Line}

-- an offset is a number in one of the four measures
abbrev pub number : Offset → ℕ
number (Byte n) = n.0
number (Unit n) = n.0
number (Point n) = n.0
number (Line n) = n.0

abbrev pub measure : Offset → Place → ℕ
measure (Byte n) = λ p. p.bytes
measure (Unit n) = λ p. p.units
measure (Point n) = λ p. p.points
measure (Line n) = λ p. p.lines

-- the units of a segment by its size alone
abbrev pub units_by_size : ℕ → ℕ
units_by_size n = cond (n == 4) 2 1

-- a place with its counts modulo 2^64
abbrev pub wrapped : Place → Place
wrapped p = place (p.bytes % 2 ^ 64) (p.units % 2 ^ 64) (p.points % 2 ^ 64) (p.lines % 2 ^ 64)

-- the place behind a segment of so many bytes that ends so many lines, one or none
abbrev pub behind : Place → ℕ → ℕ → Place
behind p size ends = place (p.bytes + size) (p.units + units_by_size size) (p.points + 1) (p.lines + ends)

-- the place one segment behind another by any reader, where the rest of the text is given, and how many lines end there; counts are
-- modulo 2^64
abbrev pub stepped_by : Reader Kind → Place → List ℕ → ℕ → Place
stepped_by look p [] ends = p
stepped_by look p (x ∷ xs) ends = wrapped (behind p (size (first look x xs)) ends)

-- no count can go past the largest number on the way through the rest
pub record Roomy (p : Place) (rest : List ℕ) : Type 0 where
  pub bytes : p.bytes + length rest < 2 ^ 64
  pub units : p.units + length rest < 2 ^ 64
  pub points : p.points + length rest < 2 ^ 64
  pub lines : p.lines + length rest < 2 ^ 64

-- ---- from a place on, from which on the rest of the text is given

-- plain lookup
abbrev pub walk_says : (Place → ℕ) → ℕ → Place → List ℕ → List ℕ
walk_says measure offset from rest = found_says (lookup ruler.step measure offset from (cut reader rest))

-- the last place whose count is at most `most`
abbrev pub reached : (Place → ℕ) → ℕ → Place → List ℕ → Place
reached measure most from rest = last ruler.step measure most from (cut reader rest)

-- the counts that are not in bytes are within the limit
abbrev pub fair : Place → Bool
fair p = nat_le p.units limit && nat_le p.points limit && nat_le p.lines limit

-- so many bytes more go past the limit
abbrev pub over : Place → ℕ → Bool
over p more = nat_lt limit (p.bytes + more)

-- refusal 2 where the text does, then 8 where a count is not fair
abbrev pub going : Place → List ℕ → List ℕ → List ℕ
going from rest granted = cond (over from (length rest)) (2 ∷ []) (cond (fair from) granted (8 ∷ []))

abbrev pub resume_says : (Place → ℕ) → ℕ → Place → List ℕ → List ℕ
resume_says measure offset from rest = going from rest (walk_says measure offset from rest)

abbrev pub last_says : (Place → ℕ) → ℕ → Place → List ℕ → List ℕ
last_says measure most from rest = going from rest (0 ∷ four_counts (reached measure most from rest))
