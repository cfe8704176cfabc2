-- The row of an index with one checkpoint more.
use Rattle.std.specs.Prelude.{ℕ, ◌+◌, ◌*◌, ◌/◌, ◌%◌, ◌^◌, cond, List, length, ltb, eqb}
use Rattle.std.proofs.lemmas.List.Edits.{sets}
use Rattle.place.specs.Measures.{place}
use Rattle.place.specs.Lookup.{four_counts}
use Rattle.place.specs.declared.Place.{Place}
use Rattle.index_checkpoint.specs.Checkpoints.{spacing, width}

-- a place with its counts modulo 2^32
abbrev pub short : Place → Place
short p = place (p.bytes % 2 ^ 32) (p.units % 2 ^ 32) (p.points % 2 ^ 32) (p.lines % 2 ^ 32)

-- checkpoint k is this place, where the row has room for it
abbrev pub marked_at : List ℕ → ℕ → Place → List ℕ
marked_at row k p = cond (ltb k (length row / width)) (sets row (width * k) (four_counts (short p))) row

-- the first checkpoint above p, if it is not above q: q where q lies at its byte, else p
abbrev pub marked_once : List ℕ → Place → Place → List ℕ
marked_once row p q =
    let k = p.bytes / spacing + 1 in
    cond (ltb (q.bytes / spacing) k) row
    (cond (eqb q.bytes (spacing * k)) (marked_at row k q) (marked_at row k p))
