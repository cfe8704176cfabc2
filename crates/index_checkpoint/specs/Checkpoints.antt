-- Checkpoints: four 32-bit numbers each, one at each multiple of 256 bytes.
use Rattle.std.specs.Prelude.{ℕ, ◌*◌, List, get_or}
use Rattle.theory.specs.Tally.{written}
use Rattle.theory.specs.Index.{numbers_at, marks, index}
use Rattle.place.specs.Measures.{place, ruler, reader}
use Rattle.place.specs.Lookup.{four_counts}
use Rattle.place.specs.declared.Place.{Place}

-- a checkpoint stands at each multiple of so many bytes
abbrev pub spacing : ℕ
spacing = 256

-- it is so many numbers of the index: its bytes, units, code points and lines
abbrev pub width : ℕ
width = 4

-- how many numbers the index of a text of so many bytes has
abbrev pub needed : ℕ → ℕ
needed n = width * marks spacing n

-- a place from its four numbers
abbrev pub place_of : List ℕ → Place
place_of l = place (get_or l 0 0) (get_or l 1 0) (get_or l 2 0) (get_or l 3 0)

-- THE INDEX OF A TEXT: checkpoint k is the last place at or before byte 256 × k
abbrev pub index_of : List ℕ → List ℕ
index_of text = written four_counts (index reader ruler spacing text)

-- checkpoint k, as an index has it
abbrev pub checkpoint : List ℕ → ℕ → Place
checkpoint row = numbers_at width place_of row
