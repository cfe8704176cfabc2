-- The checkpoint that halving chooses.
use Rattle.std.specs.Prelude.{ℕ, Bool, List, leb, ltb}
use Rattle.theory.specs.Index.{halve}
use Rattle.place.specs.Walk.{number, measure}
use Rattle.place.specs.declared.Place.{Place}
use Rattle.place.specs.declared.Offset.{Offset}
use Rattle.place.specs.declared.Offset.TheVariants.{Byte, Unit, Point, Line}
use Rattle.index_checkpoint.specs.Checkpoints.{checkpoint}

-- a count is at most the offset, for lines below it
abbrev pub less : Offset → ℕ → ℕ → Bool
less (Byte n) = leb
less (Unit n) = leb
less (Point n) = leb
less (Line n) = ltb

abbrev pub passes : Offset → Place → Bool
passes to p = less to (measure to p) (number to)

-- the choice by halving among n checkpoints
abbrev pub halved : Offset → List ℕ → ℕ → ℕ
halved to row n = halve n (λ k. passes to (checkpoint row k)) 0 n
